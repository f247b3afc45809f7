-- `hex` writes the kit's digits, sixteen of them. Assumes nothing.
use Rattle.text.proofs.Digits.{hex-is}
use Rattle.text.proofs.writer.Writer.hex.Goals as goal

pub returns : goal.returns
returns c =
    let d = c.hex-k.ensures in
    rw (← (hex-is _ _ d.len c.ranges.n.fits), ← d.digits) c.word.ensures
