-- `refusal` writes the number, and the leaf with refusals 5 to 10. Assumes nothing.
use Rattle.std.proofs.Common.{◌≡◌, true, false, ◌&&◌, leb, append_assoc}
use Rattle.text.proofs.WriterLaws.{then}
use Rattle.text.specs.Lines.{ascii, decimal, refusal_line}
use Rattle.text.proofs.writer.Writer.refusal.Goals.{then-number, else-number}
use Rattle.text.proofs.writer.Writer.refusal.Goals as goal

pub returns-clause-text : goal.returns-clause-text
unfolding refusal_line
returns-clause-text c =
    let n = rw c.from.ensures at c.number.ensures in
    elim c.if-number.branch [
      | then-number w ↦
          (let shown : (leb 5 c.args.number && leb c.args.number 10) ≡ true = w.if-number.true in
          rw (shown, append_assoc (decimal c.args.number) (ascii " ") _)
          (then _ _ _ _ _ c.word.ensures
          (then _ _ _ _ _ n (then _ _ _ _ _ w.word-then-number.ensures (then _ _ _ _ _ w.number-then-number.ensures (rw w.self-is at c.word-2.ensures))))))
      | else-number w ↦
          (let hidden : (leb 5 c.args.number && leb c.args.number 10) ≡ false = w.if-number.false in
          rw hidden (then _ _ _ _ _ c.word.ensures (then _ _ _ _ _ n (rw w.self-is at c.word-2.ensures))))
    ]
