-- The mask of a pair of codes, by their bits.
use Rattle.rights.proofs.BaseMasks.{pair_is}
use Rattle.rights.proofs.pass.indirect.indirect_mask.Goals as goal

pub returns : goal.returns
returns c = rw (c.pair_mask.ensures, c.upper_bits.ensures, c.code_bits-2.ensures, c.code_bits.ensures) (pair_is c.args.two c.args.p c.args.u)
