-- Chains of checks. Of finitely many checks all pass, or one is the first that does not; and so a list is refused before its leaves, at a first leaf, or
-- not at all. Assumes nothing.
use mathlib.Core.Path.{◌≡◌, refl, sym, ap, ◌∙◌}
use mathlib.Core.Bool.{Bool, true, false, not}
use mathlib.Core.List.{List, [], ◌∷◌}
use mathlib.Core.Logic.{◌⊎◌, inl, inr}
use Prim.Native.Nat.{ℕ, zero, suc, ◌<◌}
use native.Mathlib.Nat.{eq-or-lt_of_le, le_antisymm, le_of_suc-le-suc, not-suc-le-zero}
use native.Mathlib.Omega.{arith}
use lib.Dec.{ltb}
use lib.ListN.{length, get_or}
use borrow.Author.Tests.{ltb-true, ltb-false}
use Rattle.records.proofs.Cases.{clash}
use Rattle.std.specs.Prelude.{Result, Ok, Err}
use Rattle.records.specs.Values.{Check, passes, check_if, check_then, first_of, on_leaf}
use Rattle.records.specs.declared.refusal.LeafRefusal.{LeafRefusal}
use Rattle.records.specs.declared.refusal.Refusal.TheVariants.{IllFormed}
use Rattle.records.specs.declared.refusal.Refusal.{Refusal}

-- a chain of checks that passes, and one that refuses
pub both-pass : (a b : Check) → check_then a b ≡ passes → (a ≡ passes) × (b ≡ passes)
both-pass (Ok u) b e = (refl, e)
both-pass (Err n) b e = clash (cc)

pub refused-by : {N : Type 0} (a b : Check) (k : Refusal) → (a ≡ Err k → N) → (b ≡ Err k → N) → check_then a b ≡ Err k → N
refused-by (Ok u) b k f g e = g e
refused-by (Err n) b k f g e = f e

pub each-passes : (R : ℕ → Check) (xs : List ℕ) → first_of R xs ≡ passes → (k : ℕ) → k < length xs → R (get_or xs k 0) ≡ passes
each-passes R [] e k h = absurd (not-suc-le-zero h)
each-passes R (a ∷ more) e zero h = (both-pass (R a) _ e).0
each-passes R (a ∷ more) e (suc k) h = each-passes R more (both-pass (R a) _ e).1 k (le_of_suc-le-suc h)

-- one check that refuses, and one that passes
pub checked : (t : Bool) (n k : Refusal) → check_if t n ≡ Err k → k ≡ n
checked true n k e = cc
checked false n k e = clash (cc)

pub passed : (t : Bool) (n : Refusal) → check_if (not t) n ≡ passes → t ≡ true
passed true n e = refl
passed false n e = clash (cc)

-- every check below n passes
abbrev pub AllPass : (ℕ → Check) → ℕ → Type 0
AllPass R n = (j : ℕ) → j < n → R j ≡ passes

-- check i refuses with k, and every one before it passes
pub record FirstAt (R : ℕ → Check) (n : ℕ) (k : Refusal) (i : ℕ) : Type 0 where
  pub within : i < n
  pub before : AllPass R i
  pub refuses : R i ≡ Err k

decided : (R : ℕ → Check) (n : ℕ) → AllPass R n ⊎ ((k : Refusal) × (i : ℕ) × FirstAt R n k i)
decided R zero = inl (λ j h. absurd (omega arith))
decided R (suc n) = go (decided R n) (R n) refl
  where
    last : AllPass R n → R n ≡ passes → (j : ℕ) → (j ≡ n) ⊎ (j < n) → R j ≡ passes
    last a e j (inl p) = ap R p ∙ e
    last a e j (inr h) = a j h

    go : AllPass R n ⊎ ((k : Refusal) × (i : ℕ) × FirstAt R n k i) → (x : Check) → R n ≡ x → AllPass R (suc n) ⊎ ((k : Refusal) × (i : ℕ) × FirstAt R (suc n) k i)
    go (inr (k, i, f)) x e = inr (k, i, record { within = let h = f.within in omega arith; before = f.before; refuses = f.refuses })
    go (inl a) (Err k) e = inr (k, n, record { within = omega arith; before = a; refuses = e })
    go (inl a) (Ok u) e = inl (λ j h. last a e j (eq-or-lt_of_le (le_of_suc-le-suc h)))

-- two first refusals are one
pub same_first : (R : ℕ → Check) (k : Refusal) (i : ℕ) (m : Refusal) (j : ℕ) → AllPass R i → R i ≡ Err k → AllPass R j → R j ≡ Err m → (k ≡ m) × (i ≡ j)
same_first R k i m j h x p y = go (ltb i j) refl (ltb j i) refl
  where
    go : (t : Bool) → ltb i j ≡ t → (u : Bool) → ltb j i ≡ u → (k ≡ m) × (i ≡ j)
    go true c u d = let z = p i (ltb-true i j c) in clash (cc)
    go false c true d = let z = h j (ltb-true j i d) in clash (cc)
    go false c false d =
        let e : i ≡ j = le_antisymm (ltb-false j i d) (ltb-false i j c) in
        let z = sym x ∙ ap R e ∙ y in (cc, e)

-- what may come before checks 0 to n - 1, and these: the first refusal is before them or at one of them, or there is none
pub data Ways (x : Check) (R : ℕ → Check) (n : ℕ) : Type 0 where
  refused-before : (k : Refusal) → x ≡ Err k → Ways x R n
  refused-at : (k : Refusal) (i : ℕ) → x ≡ passes → FirstAt R n k i → Ways x R n
  none-refused : x ≡ passes → AllPass R n → Ways x R n

pub ways : (x : Check) (R : ℕ → Check) (n : ℕ) → Ways x R n
ways (Err k) R n = refused-before k refl
ways (Ok u) R n = go (decided R n)
  where
    go : AllPass R n ⊎ ((k : Refusal) × (i : ℕ) × FirstAt R n k i) → Ways passes R n
    go (inl h) = none-refused refl h
    go (inr (k, i, h)) = refused-at k i refl h

-- the refusal and the leaf of a list's answer that refuses; any refusal and leaf for one that does not
abbrev refusal_in : {A : Type 0} → Result A LeafRefusal → Refusal
refusal_in (Ok a) = IllFormed
refusal_in (Err e) = e.refusal

abbrev leaf_in : {A : Type 0} → Result A LeafRefusal → ℕ
leaf_in (Ok a) = 0
leaf_in (Err e) = e.leaf

-- two that refuse and are equal have the same
abbrev pub refused_on : {A : Type 0} → Refusal → ℕ → Result A LeafRefusal
refused_on r i = Err (on_leaf r i)

pub same-refusal : {A : Type 0} {r s : Refusal} {i j : ℕ} → refused_on {A = A} r i ≡ refused_on s j → (r ≡ s) × (i ≡ j)
same-refusal e = (ap refusal_in e, ap leaf_in e)
