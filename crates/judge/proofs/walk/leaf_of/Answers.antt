-- Its 18 bytes are read as the leaf.
use Rattle.std.proofs.Common.{rules, ◌∙◌}
use Rattle.judge.proofs.Steps.{leaf-part}
use Rattle.judge.proofs.walk.leaf_of.Goals as goal

pub unwrap-requires : goal.unwrap-requires
unwrap-requires c = let e = c.read_leaf.ensures ∙ leaf-part _ _ c.requires in search rules

pub returns : goal.returns
returns c = let e = c.read_leaf.ensures ∙ leaf-part _ _ c.requires in search rules
