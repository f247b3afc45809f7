-- Each entry is what the closure gives.
use Rattle.std.proofs.Common.{rules}
use Rattle.rights.proofs.words.groups.never_group.Goals as goal

pub returns : goal.returns
returns c = λ k h. let e = c.of.ensures k h in search rules
