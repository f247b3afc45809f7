-- The words of the groups are the leaves'.
use Rattle.judge.proofs.GroupWords.{indirect-gives}
use Rattle.judge.proofs.leaves.indirect_list.Goals as goal

pub invariant_of-fill : goal.invariant_of-fill
invariant_of-fill c =
    let t = c.args.second.now in
    record { gives = indirect-gives t.setup _ t.refused _ t.made c.requires.mode.0 c.requires.mode.1 _ c.of.ensures }
