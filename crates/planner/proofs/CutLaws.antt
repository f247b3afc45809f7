-- The masks that are cut leaf by leaf: a bit is on at the end exactly if no leaf takes it; and the first leaf that no register cures.
-- Assumes nothing.
use mathlib.Core.Path.{◌≡◌, refl, sym, ap, ◌∙◌}
use mathlib.Core.List.{List}
use mathlib.Core.Bool.{Bool, true, false, cond, not, ◌&&◌, ◌||◌}
use Prim.Native.Nat.{ℕ, zero, suc, ◌+◌, ◌≤◌, ◌<◌}
use native.Mathlib.Omega.{arith}
use lib.Dec.{eqb}
use lib.ListN.{length, get_or, set, length-set, replicate}
use lib.Seq.{get_or-set_same, get_or-set_other}
use borrow.Author.Tests.{eqb-true, eqb-false}
use Rattle.records.specs.Bits.{bit}
use Rattle.planner.specs.Register.{cut_mask}
use Rattle.planner.specs.Plan.{cut_by, cuts, uncured, first_uncured}
use Rattle.planner.proofs.Bits.{cut_low, cut-bit}
use Rattle.std.specs.Prelude.{Ok, Err}
use Rattle.planner.specs.Plan.{LeafPlan}

-- eight masks of three bits
pub record Masks (ms : List ℕ) : Type 0 where
  pub eight : length ms ≡ 8
  pub small : (s : ℕ) → get_or ms s 0 < 8

-- a leaf's place is below 8, and it takes bits of a slot
abbrev pub Low : LeafPlan → Type 0
Low (Ok c) = (c.place < 8) × (c.taken < 8)
Low (Err n) = Unit {0}

-- a leaf takes bit b of the slot at place s
abbrev pub takes : LeafPlan → ℕ → ℕ → Bool
takes (Ok c) s b = eqb s c.place && bit c.taken b
takes (Err n) s b = false

-- one of the m leaves from i on takes it
pub takes_from : (ℕ → LeafPlan) → ℕ → ℕ → ℕ → ℕ → Bool
takes_from P zero i s b = false
takes_from P (suc m) i s b = takes (P i) s b || takes_from P m (suc i) s b

stays : (a : Bool) → a ≡ (a && not false)
stays true = refl
stays false = refl

both : (a x y : Bool) → ((a && not x) && not y) ≡ (a && not (x || y))
both true true y = refl
both true false y = refl
both false x y = refl

-- a mask of three bits in place of another
set-masks : (ms : List ℕ) (k v : ℕ) → k < 8 → v < 8 → Masks ms → Masks (set ms k v)
set-masks ms k v h g M = record {
  eight = length-set ms k v ∙ M.eight;
  small = λ s. go s (eqb s k) refl;
}
  where
    go : (s : ℕ) (z : Bool) → eqb s k ≡ z → get_or (set ms k v) s 0 < 8
    go s true e = rw (eqb-true s k e, get_or-set_same ms k v 0 (let d = M.eight in omega arith)) g
    go s false e = rw (get_or-set_other ms k s v 0 (eqb-false s k e)) (M.small s)

-- the masks after a leaf: eight of three bits, and a bit is on exactly if it was on and the leaf does not take it
cut-masks : (p : LeafPlan) (ms : List ℕ) → Low p → Masks ms → Masks (cut_by p ms)
cut-masks (Err n) ms h M = M
cut-masks (Ok c) ms h M = set-masks ms c.place _ h.0 (cut_low (get_or ms c.place 0) _ (M.small c.place)) M

cut-takes : (p : LeafPlan) (ms : List ℕ) → Low p → Masks ms → (s b : ℕ) → b < 3
    → bit (get_or (cut_by p ms) s 0) b ≡ (bit (get_or ms s 0) b && not (takes p s b))
cut-takes (Err n) ms h M s b l = stays (bit (get_or ms s 0) b)
cut-takes (Ok c) ms h M s b l = go (eqb s c.place) refl
  where
    go : (z : Bool) → eqb s c.place ≡ z
        → bit (get_or (set ms c.place (cut_mask (get_or ms c.place 0) c.taken)) s 0) b ≡ (bit (get_or ms s 0) b && not (z && bit c.taken b))
    go true e =
        let q = eqb-true s c.place e in
        let w = get_or-set_same ms c.place (cut_mask (get_or ms c.place 0) c.taken) 0 (let d = M.eight in omega (arith, h.0)) in
        rw (q, w) (cut-bit (get_or ms c.place 0) c.taken b (M.small c.place) h.1 l)
    go false e = rw (get_or-set_other ms c.place s (cut_mask (get_or ms c.place 0) c.taken) 0 (eqb-false s c.place e)) (stays (bit (get_or ms s 0) b))

module _ (P : ℕ → LeafPlan) (F : (i : ℕ) → Low (P i)) where
  pub cuts-masks : (m i : ℕ) (ms : List ℕ) → Masks ms → Masks (cuts P m i ms)
  unfolding cuts
  cuts-masks zero i ms M = M
  cuts-masks (suc m) i ms M = cuts-masks m (suc i) (cut_by (P i) ms) (cut-masks (P i) ms (F i) M)

  -- a bit is on at the end exactly if it was on and no leaf takes it
  pub cuts-bit : (m i : ℕ) (ms : List ℕ) → Masks ms → (s b : ℕ) → b < 3
      → bit (get_or (cuts P m i ms) s 0) b ≡ (bit (get_or ms s 0) b && not (takes_from P m i s b))
  unfolding cuts takes_from
  cuts-bit zero i ms M s b l = stays (bit (get_or ms s 0) b)
  cuts-bit (suc m) i ms M s b l =
      cuts-bit m (suc i) (cut_by (P i) ms) (cut-masks (P i) ms (F i) M) s b l
      ∙ ap (λ (x : Bool). x && not (takes_from P m (suc i) s b)) (cut-takes (P i) ms (F i) M s b l)
      ∙ both (bit (get_or ms s 0) b) (takes (P i) s b) (takes_from P m (suc i) s b)

module _ (P : ℕ → LeafPlan) where
  -- a bit that a leaf takes is taken
  pub taken-by : (m i j s b : ℕ) → i ≤ j → j < i + m → takes (P j) s b ≡ true → takes_from P m i s b ≡ true
  unfolding takes_from
  taken-by zero i j s b lo hi e = absurd (omega arith)
  taken-by (suc m) i j s b lo hi e = go (eqb j i) refl (takes (P i) s b) refl (λ l h. taken-by m (suc i) j s b l h e)
    where
      go : (z : Bool) → eqb j i ≡ z → (x : Bool) → takes (P i) s b ≡ x
          → (suc i ≤ j → j < suc i + m → takes_from P m (suc i) s b ≡ true) → (x || takes_from P m (suc i) s b) ≡ true
      go z d true q rest = refl
      go true d false q rest =
          let w : false ≡ true = sym q ∙ ap (λ (k : ℕ). takes (P k) s b) (sym (eqb-true j i d)) ∙ e in
          let y : ◌≡◌ {A = ℕ} 0 1 = cc in absurd (omega arith)
      go false d false q rest = let ne = eqb-false j i d in rest (omega arith) (omega arith)

  -- a leaf that takes a bit
  pub record Taker (m i s b : ℕ) : Type 0 where
    pub leaf : ℕ
    pub low : i ≤ leaf
    pub high : leaf < i + m
    pub does : takes (P leaf) s b ≡ true

  pub taker : (m i s b : ℕ) → takes_from P m i s b ≡ true → Taker m i s b
  unfolding takes_from
  taker zero i s b e = let y : ◌≡◌ {A = ℕ} 0 1 = cc in absurd (omega arith)
  taker (suc m) i s b e = go (takes (P i) s b) refl e (taker m (suc i) s b)
    where
      go : (x : Bool) → takes (P i) s b ≡ x → (x || takes_from P m (suc i) s b) ≡ true
          → (takes_from P m (suc i) s b ≡ true → Taker m (suc i) s b) → Taker (suc m) i s b
      go true q d rest = record { leaf = i; low = omega arith; high = omega arith; does = q }
      go false q d rest =
          let r = rest d in
          let lo = r.low in
          let hi = r.high in
          record { leaf = r.leaf; low = omega arith; high = omega arith; does = r.does }

  -- no leaf before the first uncured one is uncured, and that one is
  pub clear : (m i j : ℕ) → i ≤ j → j < first_uncured P m i → uncured (P j) ≡ false
  unfolding first_uncured
  clear zero i j lo hi = absurd (omega arith)
  clear (suc m) i j lo hi = go (uncured (P i)) refl (eqb j i) refl hi (clear m (suc i) j)
    where
      go : (t : Bool) → uncured (P i) ≡ t → (z : Bool) → eqb j i ≡ z → j < cond t i (first_uncured P m (suc i))
          → (suc i ≤ j → j < first_uncured P m (suc i) → uncured (P j) ≡ false) → uncured (P j) ≡ false
      go true e z d h rest = absurd (omega arith)
      go false e true d h rest = ap (λ (k : ℕ). uncured (P k)) (eqb-true j i d) ∙ e
      go false e false d h rest = let ne = eqb-false j i d in rest (omega arith) h

  pub hit : (m i : ℕ) → first_uncured P m i < i + m → uncured (P (first_uncured P m i)) ≡ true
  unfolding first_uncured
  hit zero i h = absurd (omega arith)
  hit (suc m) i h = go (uncured (P i)) refl h (hit m (suc i))
    where
      go : (t : Bool) → uncured (P i) ≡ t → cond t i (first_uncured P m (suc i)) < i + suc m
          → (first_uncured P m (suc i) < suc i + m → uncured (P (first_uncured P m (suc i))) ≡ true)
          → uncured (P (cond t i (first_uncured P m (suc i)))) ≡ true
      go true e l rest = e
      go false e l rest = rest (omega arith)

repeated : (n s : ℕ) → get_or (replicate n 7) s 0 < 8
repeated zero s = omega arith
repeated (suc n) zero = omega arith
repeated (suc n) (suc s) = repeated n s

-- the masks that the planner begins with
pub sevens : Masks (replicate 8 7)
sevens = record { eight = refl; small = λ s. repeated 8 s }
