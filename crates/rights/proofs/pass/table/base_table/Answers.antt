-- The codes' table has the entry of each place.
use Rattle.std.proofs.Common.{rules}
use Rattle.rights.proofs.pass.table.base_table.Goals as goal

pub returns : goal.returns
returns c = record {
  codes = λ k h o. let e = c.table_of.ensures o k h in search rules;
  descriptor = c.direct_table.ensures.descriptor;
  limits = c.direct_table.ensures.limits;
}
