-- What the steps of the judge tell of an access. Assumes nothing.
use mathlib.Core.Path.{◌≡◌, refl}
use mathlib.Core.List.{List}
use Prim.Native.Nat.{ℕ, ◌+◌, ◌-◌, ◌*◌, ◌≤◌}
use native.Mathlib.Nat.{add-sub_cancel_left}
use native.Mathlib.Omega.{arith}
use lib.Dec.{eqb}
use lib.ListN.{length, take, drop, length-take, length-drop}
use borrow.Author.Tests.{eq-eqb, eqb-true}
use Rattle.records.proofs.Cases.{clash}
use Rattle.records.proofs.Lengths.{leaf-read}
use Rattle.records.specs.Leaf.{leaf_of, leaf_slice, leaf_at, read_leaf}
use Rattle.records.specs.Setup.{setup_of, read_setup}
use Rattle.records.specs.Values.{check_if, length_check, check_then}
use mathlib.Core.Bool.{Bool, true, false, not}
use Rattle.rights.specs.Answers.{permitted}
use Rattle.judge.specs.Judge.{judged, judge_setup, judge_of}
use Rattle.std.specs.Prelude.{Result, Ok, Err}
use Rattle.records.specs.declared.refusal.Refusal.{Refusal}
use Rattle.records.specs.declared.refusal.Refusal.TheVariants.{IllFormed}
use Rattle.rights.specs.declared.answers.Stop.TheVariants.{Faulted, Refused}
use Rattle.rights.specs.Answers.{Answer}
use Rattle.records.specs.Values.{Check}
use Rattle.records.specs.declared.leaf.Leaf.{Leaf}
use Rattle.records.specs.declared.setup.Setup.{Setup}

-- an access that is not permitted
pub not-permitted : (x : Answer) → (x ≡ (Ok tt) → ⊥) → permitted x ≡ false
not-permitted (Ok u) h = absurd (h refl)
not-permitted (Err (Faulted f)) h = refl
not-permitted (Err (Refused n)) h = refl

-- the judgement by what was read of the setup and the leaf
pub judge-as : (b c : List ℕ) (n : ℕ) (x : (Result Setup Refusal)) (y : (Result Leaf Refusal)) → read_setup b ≡ x → read_leaf c ≡ y → judge_of b c n ≡ judge_setup y n x
unfolding judge_of
judge-as b c n x y p q = rw (p, q)

setup-read : (b : List ℕ) → length b ≡ 52 → read_setup b ≡ Ok (setup_of b)
unfolding read_setup
setup-read b e = rw (eq-eqb _ _ e)

-- 52 and 18 bytes are judged
pub judge-read : (b c : List ℕ) (n : ℕ) → length b ≡ 52 → length c ≡ 18 → judge_of b c n ≡ judged (setup_of b) (leaf_of c) n
judge-read b c n p q = judge-as b c n _ _ (setup-read b p) (leaf-read c q)

-- a check of a setup's length that passes
pub long : (b : List ℕ) (x : Check) → check_then (length_check b 52) x ≡ (Ok tt) → length b ≡ 52
long b x = go (eqb (length b) 52) refl
  where
    go : (t : Bool) → eqb (length b) 52 ≡ t → check_then (check_if (not t) IllFormed) x ≡ (Ok tt) → length b ≡ 52
    go true e h = eqb-true _ _ e
    go false e h = clash (cc)

-- the 18 bytes of a leaf
pub slice-length : (ls : List ℕ) (i : ℕ) → i * 18 + 18 ≤ length ls → length (leaf_slice ls i) ≡ 18
slice-length ls i h = simp (length-take, length-drop) (omega arith)

-- and they are read as the leaf
pub leaf-part : (ls : List ℕ) (i : ℕ) → i * 18 + 18 ≤ length ls → read_leaf (take (i * 18 + 18 - i * 18) (drop (i * 18) ls)) ≡ Ok (leaf_at ls i)
leaf-part ls i h = rw (add-sub_cancel_left (i * 18) 18) (leaf-read (leaf_slice ls i) (slice-length ls i h))
