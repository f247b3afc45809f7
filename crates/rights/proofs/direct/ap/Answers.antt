-- The table of AP, by its two bits.
use Rattle.rights.proofs.Tables.{ap-is}
use Rattle.rights.proofs.direct.ap.Goals as goal

pub returns : goal.returns
returns c = rw ap-is
