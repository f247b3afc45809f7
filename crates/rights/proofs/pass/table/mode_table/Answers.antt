-- Under Direct no codes are read.
use borrow.Author.Tests.{eqb-true}
use Rattle.rights.proofs.pass.table.mode_table.Goals as goal

pub returns : goal.returns
returns c = record {
  codes = λ i. absurd (c.if-w-eq1.false (eqb-true _ _ i));
  direct = c.direct_table.ensures;
}
