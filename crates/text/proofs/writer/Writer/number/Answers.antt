-- `number` writes the kit's digits, which are the decimal text. Assumes nothing.
use Rattle.text.proofs.Digits.{decimal-is}
use Rattle.text.proofs.writer.Writer.number.Goals as goal

pub returns : goal.returns
returns c =
    let d = c.decimal-k.ensures in
    rw (← (decimal-is _ _ d.len c.ranges.n.fits).0, ← d.digits) c.word.ensures
