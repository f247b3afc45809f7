-- `leaves` has written the lines of the first leaves, as many as the iterator has counted; what is behind them is to go. Assumes nothing.
use Rattle.std.proofs.Common.{◌≡◌, ◌*◌, ◌≤◌, length, drop}
use Rattle.std.specs.Iterator.Adapters.{enumerate_source, enumerate_count, zip_first, zip_second}
use Rattle.std.specs.Slice.Iter.{chunks_exact_rest, chunks_exact_size, iter_rest}
use Rattle.text.specs.Listing.{line_at, lines_from}
use Rattle.text.specs.Mirror.Writer.{Adds}
use Rattle.text.proofs.writer.Writer.leaves.Given as goal

abbrev pub invariant-loop-i : goal.invariant-loop-i
invariant-loop-i l =
    let k = enumerate_count l.i-iterator in
    let pairs = enumerate_source l.i-iterator in
    record {
      text : Adds l.fn.self (lines_from (line_at l.rights l.leaves) k 0) l.self;
      leaves : chunks_exact_rest (zip_first pairs) ≡ drop (k * 18) l.leaves;
      size : chunks_exact_size (zip_first pairs) ≡ 18;
      rights : iter_rest (zip_second pairs) ≡ drop k l.rights;
      within : k * 18 ≤ length l.leaves;
    }
