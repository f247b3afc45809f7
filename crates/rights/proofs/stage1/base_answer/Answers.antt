-- The steps after the descriptor's, each where the one before it permits.
use Rattle.std.proofs.Common.{rules}
use Rattle.rights.specs.Stage1.{base_answer}
use Rattle.rights.proofs.Removers.{base-held}
use Rattle.rights.proofs.stage1.base_answer.Goals as goal

pub returns-in_err-fault_unless : goal.returns-in_err-fault_unless
unfolding base_answer
returns-in_err-fault_unless c = rw base-held (search rules)

pub returns : goal.returns
unfolding base_answer
returns c = rw base-held (search rules)
