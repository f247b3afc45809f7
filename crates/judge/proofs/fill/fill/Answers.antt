-- The law of a loop over the leaves, with the word of leaf `i`.
use Rattle.std.proofs.Common.{ap}
use Rattle.judge.specs.declared.fill.LeafWord.{LeafWord}
use Rattle.judge.proofs.Filled.{none, one_leaf, every_leaf}
use Rattle.judge.proofs.fill.fill.Goals as goal

pub loop-i-init : goal.loop-i-init
loop-i-init g c = none _ _ _ _ _

pub loop-i-preserved : goal.loop-i-preserved
loop-i-preserved g c =
    let i = c.loop-i.i in
    let leaf = c.leaf-found.ensures in
    one_leaf _ _ _ _ _ _ _ _ _ _ i c.loop-i.invariant c.loop-i-test.true c.requires.0 c.requires.1 _ _ _ _ _
    (ap (λ (f : LeafWord). f.word) leaf) (ap (λ (f : LeafWord). f.limits) leaf) (ap (λ (f : LeafWord). f.forbidden) leaf) c.marks_in-marks.ensures c.put.ensures

pub returns : goal.returns
returns g c = every_leaf _ _ _ _ _ _ _ _ _ _ _ _ c.loop-i.invariant c.loop-i-test.false c.sum_up.ensures
