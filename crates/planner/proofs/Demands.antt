-- The planner's answers meet its demands, and any two answers that meet them are equal: every input is refused before the leaves, at a first leaf, or left
-- to demand 3, whose answers are one. Assumes nothing.
use mathlib.Core.Path.{◌≡◌, refl, sym, ap, ap₂, ◌∙◌}
use mathlib.Core.Bool.{Bool, true, false, cond, not, ◌&&◌}
use mathlib.Core.List.{List}
use mathlib.Core.Logic.{◌⊎◌, inl, inr}
use Prim.Native.Nat.{ℕ, zero, suc, ◌+◌, ◌/◌, ◌%◌, ◌<◌}
use native.Mathlib.Nat.{add-zero, add-suc, suc-add, zero-add, le_antisymm, not-suc-le-zero, le_of_suc-le-suc}
use native.Mathlib.Omega.{arith}
use lib.Dec.{eqb, leb, ltb}
use lib.ListN.{length, length-take, length-drop}
use borrow.Author.Tests.{eqb-true, leb-true, ltb-true, ltb-false, eq-eqb}
use Rattle.records.proofs.Cases.{clash, both_hold}
use Rattle.records.proofs.CheckLaws.{both-pass, refused-by, checked, passed, AllPass, FirstAt, same_first, Ways, refused-before, refused-at, none-refused, ways, same-refusal}
use Rattle.records.proofs.SameBits.{same_bits}
use Rattle.records.specs.Bits.{bit}
use Rattle.records.specs.Descriptor.{stage1_of, stage2_of, limits_of}
use Rattle.records.specs.Leaf.{leaf_of, leaf_at, leaf_count, leaf_slice, read_leaf, whole_leaves}
use Rattle.records.specs.Setup.{of_level, setup_of, read_setup}
use Rattle.records.specs.Values.{check_if, length_check, check_then, if_passes}
use Rattle.records.specs.declared.access.Level.{Level}
use Rattle.records.specs.declared.access.Right.{Right}
use Rattle.records.specs.declared.access.Right.TheVariants.{Read, Write, Execute}
use Rattle.records.specs.declared.leaf.Leaf.{Leaf}
use Rattle.records.specs.declared.setup.Setup.{Setup}
use Rattle.rights.proofs.PromiseLaws.{refusal_in, range-refusal, refusal-number, setup-number, leaf-number}
use Rattle.rights.specs.Checks.{setup_check, level_check, leaf_check}
use Rattle.rights.specs.Promise.{all_open, refusal_of, answer_with, level_refusal, LevelRange, range_of}
use Rattle.planner.specs.Demands.{Passes, FirstUncured, Demand3, Accepted, level_at, start_refusal, leaf_refusal, PlannerNumber, PlannerDemands, BothDemands}
use Rattle.planner.specs.Plan.{range_plan, leaf_plan_of, plans_of, or_refused, refused_from, settled, start_level, start_of, plan_leaves, plan_from, plan_setup, plan_of, both_of}
use Rattle.records.specs.declared.setup.PerLevel.{PerLevel}
use Rattle.planner.proofs.Theorem.{ranged-at, demand3}
use Rattle.std.specs.Prelude.{Result, Ok, Err}
use Rattle.records.specs.declared.refusal.Refusal.{Refusal}
use Rattle.records.specs.declared.refusal.Refusal.TheVariants.{UnknownAccess, NotSeparable, ListLength, OverlayOff, IllFormed}
use Rattle.rights.specs.declared.answers.Stop.TheVariants.{Refused}
use Rattle.records.specs.Values.{on_leaf}
use Rattle.planner.specs.Plan.{Plan}
use Rattle.records.specs.Values.{Check}
use Rattle.planner.specs.Plan.{LeafPlan}
use Rattle.records.specs.Values.{refusal_number}

module _ (s : Setup) (l : Level) (f : Leaf) where
  -- a leaf that is not refused passes
  leaf-passes : leaf_refusal s l f ≡ (Ok tt) → Passes s l f
  leaf-passes e =
      let p = both-pass (leaf_check f) _ e in
      let r = both-pass (refusal Read) _ p.1 in
      let w = both-pass (refusal Write) (refusal Execute) r.1 in
      record { checked = p.0; met = λ x n q. none x n q r.0 w.0 w.1 }
    where
      refusal : Right → Check
      refusal x = refusal_of (answer_with s l all_open f x)

      none : (x : Right) (n : Refusal) → answer_with s l all_open f x ≡ (Err (Refused n)) → refusal Read ≡ (Ok tt) → refusal Write ≡ (Ok tt)
          → refusal Execute ≡ (Ok tt) → ⊥
      none Read n q a b c = let z = rw q at a in clash (cc)
      none Write n q a b c = let z = rw q at b in clash (cc)
      none Execute n q a b c = let z = rw q at c in clash (cc)

  leaf-number-of : (k : Refusal) → leaf_refusal s l f ≡ Err k → PlannerNumber (refusal_number k)
  leaf-number-of k =
      refused-by _ _ k (λ h. rw (leaf-number f k h) (inl (omega arith))) (λ h. inl (let g = refusal-number s l f k h in omega arith))

-- the plan of a leaf that is refused
leaf-refused : (s : Setup) (l : Level) (b : List ℕ) → length b ≡ 18 → (k : Refusal) → leaf_refusal s l (leaf_of b) ≡ Err k
    → leaf_plan_of s l b ≡ Err k
unfolding leaf_plan_of read_leaf
leaf-refused s l b h k e = rw (eq-eqb (length b) 18 h) (go (leaf_check (leaf_of b)) e)
  where
    range : LevelRange
    range = range_of s (stage1_of (leaf_of b).stage1) (stage2_of (leaf_of b).stage2) (limits_of (leaf_of b).limits) l

    by-range : (r : LevelRange) → refusal_in r ≡ Err k → range_plan (leaf_of b).forbidden l r ≡ Err k
    by-range (LevelRange.Range p x y) q = clash (cc)
    by-range (LevelRange.NoRange n) q = let g : n ≡ k = cc in rw g

    go : (x : Check) → check_then x (level_refusal s l all_open (leaf_of b)) ≡ Err k
        → if_passes x Err (range_plan (leaf_of b).forbidden l range) ≡ Err k
    go (Ok u) q = by-range range (range-refusal s l (leaf_of b) ∙ q)
    go (Err n) q = let g : n ≡ k = cc in rw g

-- leaf i + d is the first that is refused
stops_at : (P : ℕ → LeafPlan) (p : Plan) (m i d : ℕ) (k : Refusal) → d < m → ((j : ℕ) (q : Plan) → j < d → or_refused (P (i + j)) (i + j) q ≡ q)
    → P (i + d) ≡ Err k → refused_from P p m i ≡ Err (on_leaf k (i + d))
unfolding refused_from
stops_at P p zero i d k h g e = absurd (not-suc-le-zero h)
stops_at P p (suc m) i zero k h g e = rw (rw add-zero at e) (ap (λ (j : ℕ). Err (on_leaf k j)) (sym (add-zero i)))
stops_at P p (suc m) i (suc d) k h g e =
    let w = stops_at P p m (suc i) d k (le_of_suc-le-suc h)
    (λ j q y. rw (suc-add i j, ← (add-suc i j)) (g (suc j) q (omega arith)))
    (ap P (suc-add i d ∙ sym (add-suc i d)) ∙ e) in
    (rw add-zero at (g 0 (refused_from P p m (suc i)) (omega arith))) ∙ w ∙ ap (λ (j : ℕ). Err (on_leaf k j)) (suc-add i d ∙ sym (add-suc i d))

module _ (b : List ℕ) (lv : ℕ) (ls : List ℕ) where
  abbrev s : Setup
  s = setup_of b

  abbrev l : Level
  l = level_at lv

  -- the refusal of leaf i
  abbrev R : ℕ → Check
  R i = leaf_refusal s l (leaf_at ls i)

  -- stage 1 and that level's overlay are on; the list has whole leaves, up to 2,048
  abbrev on : Bool
  on = s.control.stage1 && of_level s.control.overlay l

  abbrev whole : Bool
  whole = whole_leaves (length ls)

  -- the answer by its refusals before the leaves
  chain : (x : Check) (u v w : Bool)
      → plan_from s ls (if_passes x Err (cond u (cond v (cond w (Ok l) (Err ListLength)) (Err OverlayOff)) (Err UnknownAccess)))
      ≡ if_passes (check_then x (check_then (check_if (not u) UnknownAccess) (check_then (check_if (not v) OverlayOff) (check_if (not w) ListLength)))) (λ (k : Refusal). (Err (on_leaf k 0))) (plan_leaves s l ls)
  chain (Err n) u v w = refl
  chain (Ok u) false v w = refl
  chain (Ok u) true false w = refl
  chain (Ok u) true true false = refl
  chain (Ok u) true true true = refl

  level-as : start_level s.control (length ls) (level_check lv)
      ≡ cond (leb lv 1) (cond on (cond whole (Ok l) (Err ListLength)) (Err OverlayOff)) (Err UnknownAccess)
  unfolding level_check
  level-as = go (leb lv 1)
    where
      go : (t : Bool) → start_level s.control (length ls) (cond t (Ok l) (Err UnknownAccess))
          ≡ cond t (cond on (cond whole (Ok l) (Err ListLength)) (Err OverlayOff)) (Err UnknownAccess)
      go true = refl
      go false = refl

  plan-by : plan_of b lv ls ≡ if_passes (start_refusal b lv ls) (λ (k : Refusal). (Err (on_leaf k 0))) (plan_leaves s l ls)
  unfolding plan_of start_refusal read_setup start_of
  plan-by = go (eqb (length b) 52)
    where
      go : (t : Bool) → plan_setup lv ls (cond t (Ok (setup_of b)) (Err IllFormed))
          ≡ if_passes
          (check_then (check_if (not t) IllFormed)
          (check_then (setup_check s.control) (check_then (check_if (not (leb lv 1)) UnknownAccess) (check_then (check_if (not on) OverlayOff) (check_if (not whole) ListLength)))))
          (λ (k : Refusal). (Err (on_leaf k 0))) (plan_leaves s l ls)
      go false = refl
      go true =
          ap (λ (x : (Result Level Refusal)). plan_from s ls (if_passes (setup_check s.control) Err x)) level-as
          ∙ chain (setup_check s.control) (leb lv 1) on whole

  -- the numbers of the refusals before the leaves
  start-number : (k : Refusal) → start_refusal b lv ls ≡ Err k → PlannerNumber (refusal_number k)
  unfolding start_refusal
  start-number k =
      refused-by (length_check b 52) _ k (λ h. rw (checked (not (eqb (length b) 52)) IllFormed k h) (inr (omega arith)))
      (refused-by (setup_check s.control) _ k (λ h. let g = setup-number s.control k h in inl (omega arith))
      (refused-by (check_if (not (leb lv 1)) UnknownAccess) _ k (λ h. rw (checked (not (leb lv 1)) UnknownAccess k h) (inl (omega arith)))
      (refused-by (check_if (not on) OverlayOff) (check_if (not whole) ListLength) k (λ h. rw (checked (not on) OverlayOff k h) (inr (omega arith)))
      (λ h. rw (checked (not whole) ListLength k h) (inr (omega arith))))))

  module _ (e : start_refusal b lv ls ≡ (Ok tt)) where
    -- a list with no refusal is accepted
    accepted : AllPass R (leaf_count ls) → Accepted b lv ls s l
    unfolding start_refusal read_setup level_check
    accepted h =
        let p = both-pass (length_check b 52) _ e in
        let q = both-pass (setup_check s.control) _ p.1 in
        let t = both-pass (check_if (not (leb lv 1)) UnknownAccess) _ q.1 in
        let o = both-pass (check_if (not on) OverlayOff) _ t.1 in
        let on = both_hold s.control.stage1 (of_level s.control.overlay l) (passed _ OverlayOff o.0) in
        let w = both_hold (eqb (length ls % 18) 0) (leb (length ls / 18) 2048) (passed _ ListLength o.1) in
        record {
          read = rw (passed (eqb (length b) 52) IllFormed p.0);
          checked = q.0;
          level_is = rw (passed (leb lv 1) UnknownAccess t.0);
          stage1_on = on.0;
          overlay_on = on.1;
          whole = eqb-true _ _ w.0;
          few = leb-true _ _ w.1;
          passes = λ j i. leaf-passes s l (leaf_at ls j) (h j i);
        }

    -- the first leaf that is refused
    stopped : (k : Refusal) (i : ℕ) → FirstAt R (leaf_count ls) k i → plan_of b lv ls ≡ Err (on_leaf k i)
    unfolding plan_leaves
    stopped k i h =
        plan-by ∙ rw e
        (stops_at (plans_of s l ls) (settled (plans_of s l ls) (leaf_count ls)) (leaf_count ls) 0 i k h.within
        (λ j q y. rw zero-add (ap (λ (x : LeafPlan). or_refused x j q) (ranged-at s l ls j (let z = h.within in omega arith) (leaf-passes s l (leaf_at ls j) (h.before j y))).plan))
        (rw zero-add (leaf-refused s l (leaf_slice ls i) (let z = h.within in simp (length-take, length-drop) (omega arith)) k h.refuses))
        ∙ ap (λ (j : ℕ). Err (on_leaf k j)) (zero-add i))

  -- two answers that meet demand 3 are one
  same-settled : (p q : Plan) → Demand3 s l ls p → Demand3 s l ls q → p ≡ q
  same-settled p q d e = go d.answered e.answered
    where
      first : (k m : ℕ) → FirstUncured s l ls k → FirstUncured s l ls m → k < m → ⊥
      first k m x y h = let r = y.before k h in x.uncured r.0 r.1 r.2

      same : (k m : ℕ) → FirstUncured s l ls k → FirstUncured s l ls m → (t : Bool) → ltb k m ≡ t → (u : Bool) → ltb m k ≡ u → k ≡ m
      same k m x y true c u f = absurd (first k m x y (ltb-true k m c))
      same k m x y false c true f = absurd (first m k y x (ltb-true m k f))
      same k m x y false c false f = le_antisymm (ltb-false m k f) (ltb-false k m c)

      both : (x y : Bool) → (x ≡ true → y ≡ true) → (y ≡ true → x ≡ true) → x ≡ y
      both true y f g = sym (f refl)
      both false true f g = g refl
      both false false f g = refl

      go : ((k : ℕ) × (p ≡ (Err (on_leaf NotSeparable k)))) ⊎ ((r : ℕ) × (p ≡ Ok r)) → ((k : ℕ) × (q ≡ (Err (on_leaf NotSeparable k)))) ⊎ ((r : ℕ) × (q ≡ Ok r)) → p ≡ q
      go (inl (k, x)) (inl (m, y)) = x ∙ ap (λ (j : ℕ). Err (on_leaf NotSeparable j)) (same k m (d.first k x) (e.first m y) (ltb k m) refl (ltb m k) refl) ∙ sym y
      go (inl (k, x)) (inr (r, y)) = let z = e.largest r y in absurd (d.refused k x r z.usable z.separates)
      go (inr (r, x)) (inl (k, y)) = let z = d.largest r x in absurd (e.refused k y r z.usable z.separates)
      go (inr (r, x)) (inr (t, y)) =
          let z = d.largest r x in
          let w = e.largest t y in
          x
          ∙ ap Ok (same_bits r t (λ k. both (bit r k) (bit t k) (w.bits r z.usable z.separates k) (z.bits t w.usable w.separates k)))
          ∙ sym y

  -- the three ways of an input
  data Case : Plan → Type 0 where
    before : (k : Refusal) → start_refusal b lv ls ≡ Err k → Case (Err (on_leaf k 0))
    at_leaf : (k : Refusal) (i : ℕ) → start_refusal b lv ls ≡ (Ok tt) → FirstAt R (leaf_count ls) k i → Case (Err (on_leaf k i))
    accepted-case : (p : Plan) → start_refusal b lv ls ≡ (Ok tt) → AllPass R (leaf_count ls) → Demand3 s l ls p → Case p

  case : Case (plan_of b lv ls)
  case = go (ways (start_refusal b lv ls) R (leaf_count ls))
    where
      go : Ways (start_refusal b lv ls) R (leaf_count ls) → Case (plan_of b lv ls)
      go (refused-before k e) = rw (plan-by, e) (before k e)
      go (refused-at k i e h) = rw (stopped e k i h) (at_leaf k i e h)
      go (none-refused e h) = accepted-case _ e h (demand3 b lv ls (plan_of b lv ls) refl s l (accepted e h))

  -- an input that is answered a register is accepted
  pub register-accepted : (r : ℕ) → plan_of b lv ls ≡ Ok r → Accepted b lv ls s l
  register-accepted r = go (plan_of b lv ls) case
    where
      go : (p : Plan) → Case p → p ≡ Ok r → Accepted b lv ls s l
      go _ (before k e) q = clash (cc)
      go _ (at_leaf k i e h) q = clash (cc)
      go p (accepted-case _ e h d) q = accepted e h

  number_in : (p : Plan) → Case p → (m : Refusal) (j : ℕ) → p ≡ Err (on_leaf m j) → PlannerNumber (refusal_number m)
  number_in _ (before k e) m j q = let g : k ≡ m = (same-refusal q).0 in rw (← g) (start-number k e)
  number_in _ (at_leaf k i e h) m j q = let g : k ≡ m = (same-refusal q).0 in rw (← g) (leaf-number-of s l (leaf_at ls i) k h.refuses)
  number_in p (accepted-case _ e h d) m j q = go d.answered
    where
      go : ((k : ℕ) × (p ≡ (Err (on_leaf NotSeparable k)))) ⊎ ((r : ℕ) × (p ≡ Ok r)) → PlannerNumber (refusal_number m)
      go (inl (k, x)) = let y : (Err (on_leaf NotSeparable k)) ≡ (Err (on_leaf m j)) = sym x ∙ q in let g : NotSeparable ≡ m = (same-refusal y).0 in rw (← g) (inr (omega arith))
      go (inr (r, x)) = let y : Ok r ≡ (Err (on_leaf m j)) = sym x ∙ q in clash (cc)

  at-start : (p : Plan) → Case p → (m : Refusal) → start_refusal b lv ls ≡ Err m → p ≡ Err (on_leaf m 0)
  at-start _ (before k e) m q = let g : k ≡ m = cc in rw g
  at-start _ (at_leaf k i e h) m q = clash (cc)
  at-start p (accepted-case _ e h d) m q = clash (cc)

  at_first : (p : Plan) → Case p → start_refusal b lv ls ≡ (Ok tt) → (m : Refusal) (j : ℕ) → j < leaf_count ls → AllPass R j → R j ≡ Err m → p ≡ (Err (on_leaf m j))
  at_first _ (before k e) q m j n h r = clash (cc)
  at_first _ (at_leaf k i e f) q m j n h r = let x = same_first R k i m j f.before f.refuses h r in rw (x.0, x.1)
  at_first p (accepted-case _ e f d) q m j n h r = let z = f j n in clash (cc)

  -- an answer that is the plan meets the demands
  pub plan-met : (p : Plan) → p ≡ plan_of b lv ls → PlannerDemands b lv ls p
  plan-met p e = rw e (record {
    numbers = number_in (plan_of b lv ls) case;
    before = at-start (plan_of b lv ls) case;
    at_leaf = at_first (plan_of b lv ls) case;
    settled = demand3 b lv ls (plan_of b lv ls) refl;
  })

  -- the demands leave one answer
  pub plan-unique : (p q : Plan) → PlannerDemands b lv ls p → PlannerDemands b lv ls q → p ≡ q
  plan-unique p q d e = go (ways (start_refusal b lv ls) R (leaf_count ls))
    where
      go : Ways (start_refusal b lv ls) R (leaf_count ls) → p ≡ q
      go (refused-before k h) = d.before k h ∙ sym (e.before k h)
      go (refused-at k i h a) = d.at_leaf h k i a.within a.before a.refuses ∙ sym (e.at_leaf h k i a.within a.before a.refuses)
      go (none-refused h a) = same-settled p q (d.settled s l (accepted h a)) (e.settled s l (accepted h a))

-- the answers that are the plans of both levels meet the demands, and no others do
pub both-met : (b ls : List ℕ) (r : PerLevel Plan) → r ≡ both_of b ls → BothDemands b ls r
unfolding both_of
both-met b ls r e = record {
  privileged = plan-met b 0 ls r.privileged (ap (λ (x : PerLevel Plan). x.privileged) e);
  unprivileged = plan-met b 1 ls r.unprivileged (ap (λ (x : PerLevel Plan). x.unprivileged) e);
}

pub both-unique : (b ls : List ℕ) (r q : PerLevel Plan) → BothDemands b ls r → BothDemands b ls q → r ≡ q
both-unique b ls r q d e =
    ap₂ (λ (x y : Plan). record { privileged = x; unprivileged = y })
    (plan-unique b 0 ls r.privileged q.privileged d.privileged e.privileged)
    (plan-unique b 1 ls r.unprivileged q.unprivileged d.unprivileged e.unprivileged)
