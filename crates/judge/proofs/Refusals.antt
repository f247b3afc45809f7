-- The refusal of a leaf from an access on, and the answer to a list from a leaf on: one more, and the end. Assumes nothing.
use mathlib.Core.Path.{◌≡◌, refl}
use mathlib.Core.Bool.{Bool, true, false}
use mathlib.Core.List.{◌∷◌}
use Prim.Native.Nat.{ℕ, suc, ◌+◌, ◌-◌, ◌≤◌, ◌<◌}
use native.Mathlib.Numerals.{add-one}
use native.Mathlib.Omega.{arith}
use lib.ListN.{length, drop, drop_of_length-le}
use Rattle.records.proofs.Cases.{at}
use Rattle.records.specs.Values.{if_passes}
use Rattle.records.specs.declared.leaf.Leaf.{Leaf}
use Rattle.records.specs.declared.setup.Setup.{Setup}
use Rattle.judge.specs.Judge.{judged}
use Rattle.judge.specs.LeafRights.{add, gather, judged_accesses}
use Rattle.judge.specs.List.{Walk, bytes, refused, step, walk}
use Rattle.judge.specs.Mirror.Walked.{refusal_by, refusal_in, listed_of}
use Rattle.std.specs.Prelude.{Ok, Err}
use Rattle.rights.specs.declared.answers.Stop.TheVariants.{Faulted, Refused}
use Rattle.records.specs.Values.{on_leaf}
use Rattle.judge.specs.Answers.{Judgement}
use Rattle.judge.specs.Answers.{LeafRights}
use Rattle.judge.specs.Answers.{Listed}
use Rattle.records.specs.Values.{Check, check_then}
use Rattle.records.specs.declared.refusal.Refusal.{Refusal}

-- the judged accesses from a on
next : (two : Bool) (a : ℕ) → a < length (judged_accesses two) → drop a (judged_accesses two) ≡ a ∷ drop (a + 1) (judged_accesses two)
next true = at 6 (λ (a : ℕ). drop a (judged_accesses true)) (λ (a : ℕ). a ∷ drop (a + 1) (judged_accesses true)) refl
next false = at 3 (λ (a : ℕ). drop a (judged_accesses false)) (λ (a : ℕ). a ∷ drop (a + 1) (judged_accesses false)) refl

-- an access before the later ones
one : (j : Judgement) (w : ℕ) (r : LeafRights) → refusal_in (add j w r) ≡ check_then (refusal_by j) (refusal_in r)
one (Ok m) w (Ok b) = refl
one (Ok m) w (Err n) = refl
one (Err (Faulted g)) w r = refl
one (Err (Refused n)) w r = refl

-- the refusal of the judged accesses from a on
abbrev pub refusal_from : Setup → Leaf → ℕ → Check
refusal_from s f a = refusal_in (gather (judged s f) (drop a (judged_accesses s.control.two)))

module _ (s : Setup) (f : Leaf) (a : ℕ) where
  -- access a, then the later ones
  pub one-access : a < length (judged_accesses s.control.two) → (x : Check) → refusal_by (judged s f a) ≡ x
      → refusal_from s f a ≡ check_then x (refusal_from s f (a + 1))
  one-access h x e = rw (next s.control.two a h, ← e) (one (judged s f a) _ _)

  -- no access is left
  pub accesses-end : length (judged_accesses s.control.two) ≤ a → refusal_from s f a ≡ Ok tt
  accesses-end h = rw (drop_of_length-le (judged_accesses s.control.two) h)

-- a leaf before the later ones
leaf_first : (r : LeafRights) (i n : ℕ) (w : Walk) → listed_of (step r i w) n ≡ if_passes (refusal_in r) (λ (k : Refusal). (Err (on_leaf k i))) (listed_of w n)
leaf_first (Ok b) i n (bytes more) = refl
leaf_first (Ok b) i n (refused k m) = refl
leaf_first (Err k) i n w = refl

-- the answer to n leaves, from leaf i on
abbrev pub listed_from : (ℕ → LeafRights) → ℕ → ℕ → Listed
listed_from f n i = listed_of (walk f i (n - i)) n

-- leaf i has refusal x, or passes
pub one-leaf : (f : ℕ → LeafRights) (n i : ℕ) → i < n → (x : Check) → refusal_in (f i) ≡ x
    → listed_from f n i ≡ if_passes x (λ (k : Refusal). (Err (on_leaf k i))) (listed_from f n (i + 1))
one-leaf f n i h x e = let m : n - i ≡ suc (n - (i + 1)) = omega arith in rw (m, add-one i, ← e) (leaf_first (f i) i n _)
