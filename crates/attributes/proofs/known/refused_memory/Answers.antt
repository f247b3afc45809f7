-- Each entry is what the closure gives.
use Rattle.std.proofs.Common.{rules, false}
use Rattle.attributes.proofs.known.refused_memory.Goals as goal

pub returns : goal.returns
returns c = (
  λ k h. let e = c.table_of.ensures false k h in search rules,
  λ k h. let e = c.table_of-2.ensures false k h in search rules,
  c.bad_sh.ensures,
  c.bad_sh-2.ensures,
)
