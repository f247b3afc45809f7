-- A leaf that is refused, and one that is not.
use Rattle.std.proofs.Common.{ℕ, ap, sym, ◌∙◌, arith}
use Rattle.records.specs.Leaf.{leaf_at}
use Rattle.records.specs.declared.leaf.Leaf.{Leaf}
use Rattle.judge.specs.LeafRights.{leaf_rights}
use Rattle.judge.specs.Mirror.Walked.{refusal_in}
use Rattle.judge.proofs.Refusals.{one-leaf}
use Rattle.judge.proofs.walk.first_refusal.Goals as goal

pub returns-in-Err : goal.returns-in-Err
returns-in-Err c =
    let found = sym (c.leaf_refusal.ensures ∙ ap (λ (l : Leaf). refusal_in (leaf_rights c.args.s l)) c.leaf_of-l.ensures) in
    sym (one-leaf (λ (i : ℕ). leaf_rights c.args.s (leaf_at c.args.leaves.now i)) _ c.loop-i.i (omega arith) _ (found ∙ c.in-Err.is)) ∙ c.loop-i.invariant

pub loop-i-preserved : goal.loop-i-preserved
loop-i-preserved c =
    let found = sym (c.leaf_refusal.ensures ∙ ap (λ (l : Leaf). refusal_in (leaf_rights c.args.s l)) c.leaf_of-l.ensures) in
    sym (one-leaf (λ (i : ℕ). leaf_rights c.args.s (leaf_at c.args.leaves.now i)) _ c.loop-i.i (omega arith) _ (found ∙ c.in_default.is)) ∙ c.loop-i.invariant
