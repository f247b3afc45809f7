-- A list's answer fits its fields.
use Rattle.std.proofs.Common.{arith}
use Rattle.sonsiplex.proofs.Exported.{list-fit}
use Rattle.sonsiplex.proofs.sonsiplex_list.Goals as goal

pub overflow_cast-n : goal.overflow_cast-n
overflow_cast-n c = omega (arith, (list-fit _ _ _ _ _ _ c.list_rights.ensures.answer c.in-Ok.is).1)

pub overflow_cast-e : goal.overflow_cast-e
overflow_cast-e c = omega (arith, (list-fit _ _ _ _ _ _ c.list_rights.ensures.answer c.in-Err.is).0)
