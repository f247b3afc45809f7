-- An access that is refused, one that is not, and the end.
use Rattle.std.proofs.Common.{rules, refl, sym, ap, ◌∙◌, arith}
use Rattle.judge.specs.LeafRights.{leaf_rights}
use Rattle.judge.specs.Mirror.Walked.{refusal_by}
use Rattle.judge.proofs.Refusals.{one-access, accesses-end}
use Rattle.judge.proofs.walk.leaf_refusal.Goals as goal
use Rattle.judge.proofs.walk.leaf_refusal.Goals.{then-s, else-s}

pub loop-a-init : goal.loop-a-init
unfolding leaf_rights
loop-a-init c = record { end = elim c.if-s.branch [ then-s w ↦ rw (w.if-s.true, w.end-is) | else-s w ↦ rw (w.if-s.false, w.end-is) ]; rest = refl }

pub returns-in_err-refusal_by : goal.returns-in_err-refusal_by
returns-in_err-refusal_by c =
    let e = sym (one-access _ _ c.loop-a.a (omega arith) _ (ap refusal_by (sym c.judge_read.ensures) ∙ sym c.refusal_by.ensures ∙ c.in_err-refusal_by.was)) ∙ c.loop-a.invariant.rest in
    search rules

pub loop-a-preserved : goal.loop-a-preserved
loop-a-preserved c = record {
  end = c.loop-a.invariant.end;
  rest = sym (one-access _ _ c.loop-a.a (omega arith) _ (ap refusal_by (sym c.judge_read.ensures) ∙ sym c.refusal_by.ensures ∙ c.in_ok-refusal_by.was)) ∙ c.loop-a.invariant.rest;
}

pub returns : goal.returns
returns c = sym (accesses-end c.args.s _ c.loop-a.a (omega arith)) ∙ c.loop-a.invariant.rest
