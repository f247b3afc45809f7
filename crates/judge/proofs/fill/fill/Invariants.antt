-- The rights and causes of the leaves before `i` are in place, and what was gathered tells whether one of them is refused.
use Rattle.records.specs.Leaf.{leaf_count}
use Rattle.judge.proofs.Filled.{Gathered}
use Rattle.judge.proofs.fill.fill.Given as goal

abbrev pub invariant-loop-i : goal.invariant-loop-i
invariant-loop-i g l =
    Gathered (g.W.Words.setup_of l.words) l.leaves (leaf_count l.leaves) l.fn.rights l.fn.causes l.marks l.limits l.forbidden l.rights l.causes l.i
