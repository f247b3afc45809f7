-- A turn of the loop over the leaves, in each of the plan's definitions, and their ends. Assumes nothing.
use Rattle.records.proofs.Cases.{clash}
use mathlib.Core.Path.{◌≡◌, refl}
use mathlib.Core.List.{List}
use mathlib.Core.Bool.{Bool, true, false, cond}
use Prim.Native.Nat.{ℕ, suc, ◌+◌, ◌-◌, ◌≤◌, ◌<◌}
use native.Mathlib.Omega.{arith}
use native.Mathlib.Numerals.{add-one}
use lib.ListN.{replicate}
use borrow.Author.Tests.{lt-ltb, le-ltb}
use Rattle.planner.specs.Register.{pack_from}
use Rattle.planner.specs.Plan.{or_refused, cut_by, uncured, refused_from, first_uncured, cuts, register_for, settled}
use Rattle.planner.specs.Mirror.Masks.{first_of, found_or}
use Rattle.std.specs.Prelude.{Ok, Err, Option, Some, None}
use Rattle.records.specs.declared.refusal.Refusal.TheVariants.{NotSeparable}
use Rattle.records.specs.Values.{on_leaf}
use Rattle.planner.specs.Plan.{Plan}
use Rattle.planner.specs.Plan.{LeafPlan}

left : {i n : ℕ} → i < n → n - i ≡ suc (n - (i + 1))
left h = omega arith

module _ (P : ℕ → LeafPlan) (n i : ℕ) (h : i < n) where
  pub refused-go : (p : Plan) → refused_from P p (n - i) i ≡ or_refused (P i) i (refused_from P p (n - (i + 1)) (i + 1))
  unfolding refused_from
  refused-go p = rw (left h, add-one i)

  pub cuts-go : (ms : List ℕ) → cuts P (n - i) i ms ≡ cuts P (n - (i + 1)) (i + 1) (cut_by (P i) ms)
  unfolding cuts
  cuts-go ms = rw (left h, add-one i)

  pub first-go : (first : Option ℕ)
      → found_or first (first_uncured P (n - i) i)
      ≡ found_or (first_of first i (uncured (P i))) (first_uncured P (n - (i + 1)) (i + 1))
  unfolding first_uncured
  first-go (Some k) = refl
  first-go None = go (uncured (P i)) refl
    where
      go : (u : Bool) → uncured (P i) ≡ u
          → first_uncured P (n - i) i ≡ found_or (cond u (Some i) None) (first_uncured P (n - (i + 1)) (i + 1))
      go true f = rw (left h, f)
      go false f = rw (left h, f, add-one i)

-- the one found so far is one of the leaves
pub first-below : (n i : ℕ) → i < n → (first : Option ℕ) (u : Bool) → ((k : ℕ) → first ≡ Some k → k < n) → (k : ℕ) → first_of first i u ≡ Some k → k < n
first-below n i h (Some j) u f k e = f k e
first-below n i h None true f k e = let q : i ≡ k = cc in omega arith
first-below n i h None false f k e = clash (cc)

-- no leaf is left
pub refused-done : (P : ℕ → LeafPlan) (p : Plan) (n i : ℕ) → n ≤ i → refused_from P p (n - i) i ≡ p
unfolding refused_from
refused-done P p n i h = let z : n - i ≡ 0 = omega arith in rw z

pub cuts-done : (P : ℕ → LeafPlan) (ms : List ℕ) (n i : ℕ) → n ≤ i → cuts P (n - i) i ms ≡ ms
unfolding cuts
cuts-done P ms n i h = let z : n - i ≡ 0 = omega arith in rw z

pub first-done : (P : ℕ → LeafPlan) (n i : ℕ) (first : Option ℕ) → i ≡ n → found_or first (first_uncured P (n - i) i) ≡ found_or first n
unfolding first_uncured
first-done P n i first q = let z : n - i ≡ 0 = omega arith in rw (z, q)

-- the answer by the first leaf that no register cures
pub uncured-settles : (P : ℕ → LeafPlan) (n first : ℕ) → first_uncured P n 0 ≡ first → first < n → settled P n ≡ Err (on_leaf NotSeparable first)
unfolding settled
uncured-settles P n first e h = rw (e, lt-ltb first n h)

pub cured-settles : (P : ℕ → LeafPlan) (n first : ℕ) (ms : List ℕ) → first_uncured P n 0 ≡ first → n ≤ first → cuts P n 0 (replicate 8 7) ≡ ms
    → settled P n ≡ Ok (pack_from ms 8 0)
unfolding settled register_for
cured-settles P n first ms e h q = rw (e, le-ltb first n h, q)
