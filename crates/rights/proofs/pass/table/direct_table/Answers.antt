-- The tables have the entry of each place.
use Rattle.std.proofs.Common.{rules}
use Rattle.rights.proofs.pass.table.direct_table.Goals as goal

pub returns : goal.returns
returns c = record {
  descriptor = λ k h. let e = c.table_of.ensures 0 k h in search rules;
  limits = λ k h. let e = c.table_of-2.ensures 0 k h in search rules;
}
