-- The definitions agree with the tables of the sources, for every leaf with both stages on. The whole domain is 256 MAIR bytes, 16 values
-- of MemAttr, FWB clear and set, and 4 values of SH at each stage, the cases refused by 8 and by 9 included. It is computed in two
-- parts that give the whole together: the type, over byte, MemAttr and FWB (8,192 values); and the shareability of any byte, over
-- whether each stage's type and the result are Outer Shareable always, and both values of SH (128 values). Assumes nothing.
use mathlib.Core.Path.{◌≡◌, refl, ◌∙◌}
use mathlib.Core.List.{List}
use mathlib.Core.Bool.{Bool, true, false, cond, not, ◌||◌}
use lib.Dec.{eqb}
use Prim.Native.Nat.{ℕ, ◌%◌, ◌<◌}
use native.Mathlib.Nat.{mod-lt}
use native.Mathlib.Omega.{arith}
use Rattle.attributes.specs.Mair.{valid_byte, mair_byte, stage1_byte, reserved_byte}
use Rattle.attributes.specs.StageTwoType.{mem_attr_of, reserved_code, reserved_mem_attr, uncached_code}
use Rattle.attributes.specs.Combine.{combine, result_of, result_byte}
use Rattle.attributes.specs.Shareability.{uncached, counted, stronger, reserved_sh, stage1_sh, stage2_sh, combined_sh, result_sh}
use Rattle.records.specs.Values.{check_if, check_then}
use Rattle.attributes.specs.Order.{check_of, memory_of, combined_if, attributes_of}
use Rattle.records.proofs.Cases.{upto, both, at, at_both}
use Rattle.attributes.proofs.Codes.{at-codes}
use Rattle.attributes.proofs.SourceTables.{Typed, refused, typed, typed_in, answer_in}
use Rattle.records.specs.declared.descriptor.Stage1.{Stage1}
use Rattle.records.specs.declared.descriptor.Stage2.{Stage2}
use Rattle.records.specs.declared.setup.Setup.{Setup}
use Rattle.records.specs.declared.refusal.Refusal.TheVariants.{MemoryCode, ReservedSh}
use Rattle.std.specs.Prelude.{Result, Err}
use Rattle.records.specs.declared.refusal.Refusal.{Refusal}
use Rattle.attributes.specs.declared.Memory.{Memory}

-- what the definitions say of a byte and MemAttr
unfoldable typed_of : Bool → ℕ → ℕ → Typed
typed_of fwb b m =
    cond (not (valid_byte b)) refused
    (cond (reserved_code fwb m) refused (typed (combine fwb b m) (uncached b) (uncached_code m) (uncached (combine fwb b m))))

-- what they say once that is known, with SH x at stage 1 and y at stage 2
unfoldable answer_of : Typed → ℕ → ℕ → Result Memory Refusal
answer_of refused x y = Err MemoryCode
answer_of (typed b u v w) x y =
    combined_if (check_if (eqb x 1 || eqb y 1) ReservedSh) (record { byte = b; sh = counted w (stronger (counted u x) (counted v y)) })

types : (fwb : Bool) (b m : ℕ) → b < 256 → m < 16 → typed_of fwb b m ≡ typed_in fwb b m
unfolding typed_of typed_in combine
types = at-codes typed_of typed_in refl

-- the answers of a byte at both values of SH, for the three Bools
abbrev shares : (Typed → ℕ → ℕ → (Result Memory Refusal)) → ℕ → Bool → Bool → Bool → List (List (Result Memory Refusal))
shares f b u v w = upto 4 (λ (x : ℕ). upto 4 (f (typed b u v w) x))

abbrev shares3 : (Typed → ℕ → ℕ → (Result Memory Refusal)) → ℕ → Bool → Bool → List (List (List (Result Memory Refusal)))
shares3 f b u v = both (shares f b u v)

abbrev shares2 : (Typed → ℕ → ℕ → (Result Memory Refusal)) → ℕ → Bool → List (List (List (List (Result Memory Refusal))))
shares2 f b u = both (shares3 f b u)

answers : (t : Typed) (x y : ℕ) → x < 4 → y < 4 → answer_of t x y ≡ answer_in t x y
unfolding answer_of answer_in
answers refused x y hx hy = refl
answers (typed b u v w) x y hx hy =
    at 4 (answer_of (typed b u v w) x) (answer_in (typed b u v w) x)
    (at 4 (λ (z : ℕ). upto 4 (answer_of (typed b u v w) z)) (λ (z : ℕ). upto 4 (answer_in (typed b u v w) z))
    (at_both (shares answer_of b u v) (shares answer_in b u v)
    (at_both (shares3 answer_of b u) (shares3 answer_in b u) (at_both (shares2 answer_of b) (shares2 answer_in b) refl u) v) w)
    x hx)
    y hy

-- the attribute steps with both stages on
module _ (s : Setup) (d : Stage1) (e : Stage2) (fetch : Bool) (on : s.control.stage1 ≡ true) (on2 : s.control.stage2 ≡ true) where
  steps : attributes_of s d e fetch ≡ answer_of (typed_of s.control.fwb (mair_byte s d) (mem_attr_of e)) (d.sh % 4) (e.sh % 4)
  unfolding mair_byte stage1_byte reserved_byte mem_attr_of reserved_mem_attr result_of result_byte reserved_sh stage1_sh stage2_sh combined_sh result_sh check_of memory_of attributes_of typed_of answer_of
  steps = rw (on, on2) (go (valid_byte (mair_byte s d)) (reserved_code s.control.fwb (mem_attr_of e)) _ _ _ _ _ _)
    where
      go : (v r : Bool) (b : ℕ) (p q w : Bool) (x y : ℕ)
          → combined_if (check_then (check_if (not v) MemoryCode) (check_then (check_if r MemoryCode) (check_if (eqb x 1 || eqb y 1) ReservedSh)))
          (record { byte = b; sh = counted w (stronger (counted p x) (counted q y)) })
          ≡ answer_of (cond (not v) refused (cond r refused (typed b p q w))) x y
      go false r b p q w x y = refl
      go true true b p q w x y = refl
      go true false b p q w x y = refl

  -- with both stages on, an access is answered as the sources' tables say
  pub sources : attributes_of s d e fetch ≡ answer_in (typed_in s.control.fwb (mair_byte s d) (mem_attr_of e)) (d.sh % 4) (e.sh % 4)
  unfolding mair_byte mem_attr_of
  sources =
      steps ∙
      rw (types s.control.fwb (mair_byte s d) (mem_attr_of e) (mod-lt _ (omega arith)) (mod-lt _ (omega arith)))
      (answers _ (d.sh % 4) (e.sh % 4) (mod-lt _ (omega arith)) (mod-lt _ (omega arith)))
