-- `word` writes what fits of the word after what the writer holds. Assumes nothing.
use Rattle.std.proofs.Common.{◌+◌, ◌-◌, ◌≡◌, refl, arith}
use Rattle.text.proofs.WriterLaws.{word-kept, word-len}
use Rattle.text.proofs.writer.Writer.word.Goals as goal

pub returns : goal.returns
returns c =
    let p = c.args.self.now in
    let n = c.min-n.result in
    let z : p.len + n - p.len ≡ n = omega arith in
    record {
      same = refl;
      text = λ o t h.
          record {
            out = rw (z, c.copy_from_slice.ensures.after) (word-kept o t c.args.word.now p.out.now _ _ h.out h.len c.min-n.ensures);
            len = word-len o t c.args.word.now p.out.now _ _ h.out h.len c.min-n.ensures;
          };
    }
