-- The table of base codes, by its bits.
use Rattle.rights.proofs.Tables.{code_is}
use Rattle.rights.proofs.indirect.base_code.Goals as goal

pub returns : goal.returns
returns c = rw c.code_bits-b.ensures (code_is _)
