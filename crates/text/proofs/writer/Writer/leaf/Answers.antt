-- `leaf` writes four numbers, each with a byte after it. Assumes nothing.
use Rattle.text.proofs.WriterLaws.{then}
use Rattle.text.specs.Lines.{leaf_line}
use Rattle.text.proofs.writer.Writer.leaf.Goals as goal

pub returns : goal.returns
unfolding leaf_line
returns c =
    then _ _ _ _ _ (then _ _ _ _ _ c.number.ensures c.word.ensures)
    (then _ _ _ _ _ (then _ _ _ _ _ (rw c.from.ensures at c.number-2.ensures) c.word-2.ensures)
    (then _ _ _ _ _ (then _ _ _ _ _ (rw c.from-2.ensures at c.number-3.ensures) c.word-3.ensures)
    (then _ _ _ _ _ (rw c.from-3.ensures at c.number-4.ensures) c.word-4.ensures)))
