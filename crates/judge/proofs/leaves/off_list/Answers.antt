-- The words of the groups are the leaves'.
use Rattle.judge.proofs.GroupWords.{off-gives}
use Rattle.judge.proofs.leaves.off_list.Goals as goal

pub invariant_of-fill : goal.invariant_of-fill
invariant_of-fill c =
    let t = c.args.second.now in
    record { gives = rw c.in-Some.is at (off-gives t.setup _ t.refused _ t.made c.requires.mode _ c.of.ensures) }

pub invariant_of-fill-in-None : goal.invariant_of-fill-in-None
invariant_of-fill-in-None c =
    let t = c.args.second.now in
    record { gives = off-gives t.setup _ t.refused _ t.made c.requires.mode _ c.of.ensures }
