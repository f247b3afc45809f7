-- The sentences of document 01, 'Memory type and shareability' and the order, that no case of 'Numbers to check against' reaches, by
-- computation. Numbers are hexadecimal in comments. MAIR is 4FAA0444FF00. Assumes nothing.
use mathlib.Core.Path.{◌≡◌, refl}
use mathlib.Core.List.{[], ◌∷◌}
use mathlib.Core.Bool.{Bool, true, false}
use Prim.Native.Nat.{ℕ}
use Rattle.attributes.specs.Mair.{nibbles, mair_byte, off_byte, stage1_byte, reserved_byte}
use Rattle.attributes.specs.StageTwoType.{mem_attr_of, reserved_mem_attr}
use Rattle.attributes.specs.Combine.{combine, result_of, result_byte}
use Rattle.attributes.specs.Shareability.{reserved_sh, stage1_sh, stage2_sh, combined_sh, result_sh}
use Rattle.attributes.specs.Order.{check_of, memory_of, attributes_of}
use Rattle.records.specs.Setup.{control_of}
use Rattle.records.specs.Descriptor.{stage1_of, stage2_of}
use Rattle.records.specs.declared.setup.Setup.{Setup}
use Rattle.std.specs.Prelude.{Result, Ok, Err}
use Rattle.records.specs.declared.refusal.Refusal.{Refusal}
use Rattle.records.specs.declared.refusal.Refusal.TheVariants.{MemoryCode, ReservedSh}
use Rattle.attributes.specs.declared.Memory.{Memory}

-- a setup with a control word; MAIR2 is F0AA00
abbrev setup : ℕ → Setup
setup w = record {
  control = control_of w;
  mair = 87591634665216;
  mair2 = 15772160;
  pir = record { privileged = 0; unprivileged = 0 };
  por = record { privileged = 0; unprivileged = 0 };
}

abbrev answer : ℕ → ℕ → ℕ → Bool → Result Memory Refusal
answer w d e fetch = attributes_of (setup w) (stage1_of d) (stage2_of e) fetch

abbrev memory : ℕ → ℕ → ℕ → Result Memory Refusal
memory o i sh = Ok (record { byte = nibbles o i; sh = sh })

-- First, stage 1 off, stage 2 with MemAttr F and SH 0 (4FD): with DC; data; a fetch, instruction cacheable and not; with both off, data.
-- Second, stage 2 off, its descriptor ignored (1D1 has MemAttr 4 and SH 01): AttrIndx[3] with index 1 (747), with AIE and without it; and
-- 44 (74B). Third, 8 before 9: MAIR2's F0 with SH 01 (54B, AttrIndx[3] set); MemAttr 4 with SH 01 (5D1); 9 of stage 2 (5FD); 9 of a
-- stage 1 Device (54F).
pub sentences :
    (answer 1029 0 1277 false ∷ answer 5 0 1277 false ∷ answer 2053 0 1277 true ∷ answer 5 0 1277 true ∷ answer 1 0 0 false ∷ []
    ≡ memory 15 15 0 ∷ memory 0 0 2 ∷ memory 10 10 2 ∷ memory 4 4 2 ∷ memory 0 0 2 ∷ [])
    × (answer 4099 576460752303425351 465 false ∷ answer 3 576460752303425351 465 false ∷ answer 3 1867 465 false ∷ []
    ≡ memory 10 10 3 ∷ memory 15 15 3 ∷ memory 4 4 2 ∷ [])
    × (answer 4099 576460752303424843 0 false ∷ answer 7 1863 1489 false ∷ answer 7 1863 1533 false ∷ answer 3 1359 0 false ∷ []
    ≡ Err MemoryCode ∷ Err MemoryCode ∷ Err ReservedSh ∷ Err ReservedSh ∷ [])
unfolding control_of stage1_of stage2_of mair_byte off_byte stage1_byte reserved_byte mem_attr_of reserved_mem_attr combine result_of result_byte reserved_sh stage1_sh stage2_sh combined_sh result_sh check_of memory_of attributes_of
sentences = (refl, refl, refl)
