-- By a setup's tables a leaf is known exactly where the check passes: the tables' entries are the check's tests at what the descriptors hold.
-- Assumes nothing.
use mathlib.Core.Path.{◌≡◌, refl}
use mathlib.Core.Bool.{Bool, true, false, not, ◌&&◌, ◌||◌}
use mathlib.Core.List.{List}
use Prim.Native.Nat.{ℕ, ◌/◌, ◌%◌, ◌<◌}
use native.Mathlib.Omega.{arith}
use lib.Dec.{eqb}
use lib.ListN.{get_or}
use Rattle.records.proofs.Cases.{at}
use Rattle.records.specs.Bits.{field}
use Rattle.records.specs.Descriptor.{sh, attr_indx, mem_attr, stage1_of, stage2_of}
use Rattle.records.specs.Mirror.Fields.{attr_indx_of}
use Rattle.records.specs.Values.{check_if, check_then}
use Rattle.records.specs.declared.setup.Setup.{Setup}
use Rattle.attributes.specs.Mair.{mair_byte, reserved_byte}
use Rattle.attributes.specs.StageTwoType.{mem_attr_of, reserved_mem_attr}
use Rattle.attributes.specs.Shareability.{reserved_sh}
use Rattle.attributes.specs.Order.{check_of}
use Rattle.attributes.specs.Mirror.Known.{bad_sh, IsRefused, passes_at, known_with, passes}
use Rattle.attributes.specs.declared.known.Refused.{Refused}
use Rattle.records.specs.declared.refusal.Refusal.TheVariants.{MemoryCode, ReservedSh}

-- nothing is refused exactly where the three checks pass
all_pass : (a b x y : Bool) → (not a && not b && not x && not y)
    ≡ passes (check_then (check_if a MemoryCode) (check_then (check_if b MemoryCode) (check_if (x || y) ReservedSh)))
all_pass true b x y = refl
all_pass false true x y = refl
all_pass false false true y = refl
all_pass false false false true = refl
all_pass false false false false = refl

module _ (s : Setup) (d e : ℕ) (t : Refused) (h : IsRefused s.control s.mair s.mair2 t) where
  byte-entry : get_or t.stage1.kind (attr_indx_of d) false ≡ reserved_byte s (stage1_of d)
  unfolding mair_byte reserved_byte stage1_of
  byte-entry =
      let low : attr_indx_of d % 8 ≡ attr_indx d % 8 = omega arith in
      let top : attr_indx_of d / 8 ≡ field d 59 1 = omega arith in
      rw (low, top) at (h.0 (attr_indx_of d) (omega arith))

  code-entry : get_or t.stage2.kind (mem_attr e) false ≡ reserved_mem_attr s (stage2_of e)
  unfolding mem_attr_of reserved_mem_attr stage2_of
  code-entry = let low : mem_attr e % 16 ≡ mem_attr e = omega arith in rw low (h.1 (mem_attr e) (omega arith))

  -- SH n of a stage that is on or off
  sh-entry : (v : List Bool) (n : ℕ) (on : Bool) → v ≡ bad_sh on → n < 4 → get_or v n false ≡ (on && eqb (n % 4) 1)
  sh-entry v n on p i = rw p (go on)
    where
      go : (b : Bool) → get_or (bad_sh b) n false ≡ (b && eqb (n % 4) 1)
      go true = at 4 (λ (m : ℕ). get_or (bad_sh true) m false) (λ (m : ℕ). eqb (m % 4) 1) refl n i
      go false = at 4 (λ (m : ℕ). get_or (bad_sh false) m false) (λ (m : ℕ). false) refl n i

  pub known-law : known_with t d e ≡ passes (check_of s (stage1_of d) (stage2_of e))
  unfolding known_with check_of reserved_sh stage1_of stage2_of
  known-law = rw (byte-entry, code-entry, sh-entry t.stage1.sh (sh d) s.control.stage1 h.2 (omega arith), sh-entry t.stage2.sh (sh e) s.control.stage2 h.3 (omega arith), all_pass)

  -- where stage 2 is off it refuses no memory
  pub second-off : s.control.stage2 ≡ false → (passes_at t.stage2.kind (mem_attr e) ≡ true) × (passes_at t.stage2.sh (sh e) ≡ true)
  unfolding reserved_mem_attr
  second-off off = (rw (code-entry, off), rw (sh-entry t.stage2.sh (sh e) s.control.stage2 h.3 (omega arith), off))

  -- and so stage 1
  pub first_off : s.control.stage1 ≡ false → (passes_at t.stage1.kind (attr_indx_of d) ≡ true) × (passes_at t.stage1.sh (sh d) ≡ true)
  unfolding reserved_byte
  first_off off = (rw (byte-entry, off), rw (sh-entry t.stage1.sh (sh d) s.control.stage1 h.2 (omega arith), off))
