-- The descriptor's faults, then the rights.
use Rattle.std.proofs.Common.{rules}
use Rattle.rights.specs.Stage2.{stage2_answer}
use Rattle.rights.proofs.Removers.{stage2-held}
use Rattle.rights.proofs.stage2.stage2_answer.Goals as goal

pub returns : goal.returns
unfolding stage2_answer
returns c = rw stage2-held (search rules)
