-- What XN leaves of each level's execution.
use Rattle.rights.proofs.Stage2Tables.{px-is, ux-is}
use Rattle.rights.proofs.stage2.xn.Goals as goal

pub returns : goal.returns
returns c = rw (c.meet.ensures, px-is, ux-is)
