-- A turn of the loop takes a leaf's plan from what is left; at its end nothing is left.
use Rattle.std.proofs.Common.{◌≡◌, ◌+◌, ◌-◌, ◌*◌, ◌/◌, ℕ, ◌<◌, Bool, List, length, take, drop, sym, ap, ◌∙◌, subst, arith}
use Rattle.std.specs.Prelude.{get_or, set, replicate, Ok, Option}
use native.Mathlib.Nat.{le_antisymm, add-sub_cancel_left}
use Rattle.records.specs.declared.access.Level.{Level}
use Rattle.rights.specs.declared.pass.table.BaseTable.{BaseTable}
use Rattle.planner.specs.Mirror.Masks.{plan_by, plans_by, first_of, found_or}
use Rattle.planner.specs.Plan.{Plan, LeafPlan, or_refused, cut_by, uncured, refused_from, first_uncured, cuts}
use Rattle.planner.specs.declared.cut.Cut.{Cut}
use Rattle.planner.proofs.CutLaws.{Low, cuts-masks, sevens}
use Rattle.planner.proofs.MaskLaws.{by-low}
use Rattle.planner.proofs.Turns.{refused-go, cuts-go, first-go, first-below, refused-done, cuts-done, first-done, uncured-settles, cured-settles}
use Rattle.planner.proofs.plan_leaves.Goals as goal

module _ (w : ℕ) (on : Bool) (b : BaseTable) (l : Level) (ls : List ℕ) where
  -- what `plan_leaf` answered is leaf i's plan
  planned : (i : ℕ) (p : LeafPlan) → p ≡ plan_by w on b l (take (i * 18 + 18 - i * 18) (drop (i * 18) ls)) → plans_by w on b l ls i ≡ p
  planned i p e = sym (e ∙ ap (λ (k : ℕ). plan_by w on b l (take k (drop (i * 18) ls))) (add-sub_cancel_left (i * 18) 18))

  -- a cut's place is below 8
  low : (c : Cut) (i : ℕ) → Ok c ≡ plan_by w on b l (take (i * 18 + 18 - i * 18) (drop (i * 18) ls)) → c.place < 8
  low c i e = (subst Low (sym e) (by-low w on b l _)).0

  -- the masks at the end of the loop are the cut ones, of three bits each
  small : (n : ℕ) (ms : List ℕ) → cuts (plans_by w on b l ls) n 0 (replicate 8 7) ≡ ms → (s : ℕ) → get_or ms s 0 < 8
  small n ms e = subst (λ (x : List ℕ). (s : ℕ) → get_or x s 0 < 8) e (cuts-masks (plans_by w on b l ls) (λ i. by-low w on b l _) n 0 _ sevens).small

module _ (P : ℕ → LeafPlan) (n i : ℕ) (h : i < n) (p : LeafPlan) (e : P i ≡ p) where
  planned-go : (q : Plan) → refused_from P q (n - i) i ≡ or_refused p i (refused_from P q (n - (i + 1)) (i + 1))
  planned-go q = refused-go P n i h q ∙ ap (λ (x : LeafPlan). or_refused x i (refused_from P q (n - (i + 1)) (i + 1))) e

  cut-go : (ms : List ℕ) → cuts P (n - i) i ms ≡ cuts P (n - (i + 1)) (i + 1) (cut_by p ms)
  cut-go ms = cuts-go P n i h ms ∙ ap (λ (x : LeafPlan). cuts P (n - (i + 1)) (i + 1) (cut_by x ms)) e

  found-go : (first : Option ℕ)
      → found_or first (first_uncured P (n - i) i)
      ≡ found_or (first_of first i (uncured p)) (first_uncured P (n - (i + 1)) (i + 1))
  found-go first =
      first-go P n i h first ∙ ap (λ (x : LeafPlan). found_or (first_of first i (uncured x)) (first_uncured P (n - (i + 1)) (i + 1))) e

abbrev planned_as : ℕ → Plan
planned_as r = Ok r

pub returns-in-Err : goal.returns-in-Err
returns-in-Err c =
    let l = c.loop-i in
    sym (l.invariant.planned ∙ planned-go _ _ _ c.loop-i-test.true _ (planned _ _ _ _ c.args.leaves.now l.i _ c.in-Err.ensures) _)

pub bounds-masks-cut : goal.bounds-masks-cut
bounds-masks-cut c = low _ _ _ _ c.args.leaves.now _ c.loop-i.i c.in-Ok.ensures

pub bounds-masks-cut-in-loop-i : goal.bounds-masks-cut-in-loop-i
bounds-masks-cut-in-loop-i c = low _ _ _ _ c.args.leaves.now _ c.loop-i.i c.in-Ok.ensures

pub loop-i-preserved : goal.loop-i-preserved
loop-i-preserved c =
    let l = c.loop-i in
    let a = c.args in
    let n = length a.leaves.now / 18 in
    let P = plans_by a.s.now.control a.s.now.on a.s.now.base a.s.now.level a.leaves.now in
    let e = planned a.s.now.control a.s.now.on a.s.now.base a.s.now.level a.leaves.now l.i _ c.in-Ok.ensures in
    record {
      within = omega arith;
      planned = l.invariant.planned ∙ planned-go P n l.i c.loop-i-test.true _ e _;
      cut =
          l.invariant.cut
          ∙ cut-go P n l.i c.loop-i-test.true _ e l.masks
          ∙ ap (λ (m : ℕ). cuts P (n - (l.i + 1)) (l.i + 1) (set l.masks c.in-Ok.cut.place m)) (sym c.cut_mask.ensures);
      below = rw c.first_of-first.ensures (first-below n l.i c.loop-i-test.true l.first c.in-Ok.cut.uncured l.invariant.below);
      found =
          l.invariant.found
          ∙ found-go P n l.i c.loop-i-test.true _ e l.first
          ∙ ap (λ (z : Option ℕ). found_or z (first_uncured P (n - (l.i + 1)) (l.i + 1))) (sym c.first_of-first.ensures);
    }

pub returns-in-Some : goal.returns-in-Some
returns-in-Some c =
    let v = c.loop-i.invariant in
    let d = c.loop-i-test.false in
    let n = length c.args.leaves.now / 18 in
    let P = plans_by c.args.s.now.control c.args.s.now.on c.args.s.now.base c.args.s.now.level c.args.leaves.now in
    let f = v.found ∙ first-done P n c.loop-i.i c.loop-i.first (le_antisymm v.within d) ∙ ap (λ (z : Option ℕ). found_or z n) c.in-Some.is in
    sym (v.planned ∙ refused-done _ _ _ _ d ∙ uncured-settles _ _ _ f (v.below _ c.in-Some.is))

pub pack-requires : goal.pack-requires
pack-requires c = small _ _ _ _ _ _ _ (c.loop-i.invariant.cut ∙ cuts-done _ _ _ _ c.loop-i-test.false)

pub returns : goal.returns
returns c =
    let v = c.loop-i.invariant in
    let d = c.loop-i-test.false in
    let n = length c.args.leaves.now / 18 in
    let P = plans_by c.args.s.now.control c.args.s.now.on c.args.s.now.base c.args.s.now.level c.args.leaves.now in
    let f = v.found ∙ first-done P n c.loop-i.i c.loop-i.first (le_antisymm v.within d) ∙ ap (λ (z : Option ℕ). found_or z n) c.in_default.is in
    ap planned_as c.pack.ensures
    ∙ sym (v.planned ∙ refused-done _ _ _ _ d ∙ cured-settles _ _ _ _ f (omega arith) (v.cut ∙ cuts-done _ _ _ _ d))
