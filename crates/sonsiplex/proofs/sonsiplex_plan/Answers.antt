-- A plan's answer fits its fields.
use Rattle.std.proofs.Common.{arith}
use Rattle.sonsiplex.proofs.Exported.{plan-fit}
use Rattle.sonsiplex.proofs.sonsiplex_plan.Goals as goal

pub overflow_cast-register : goal.overflow_cast-register
overflow_cast-register c = omega (arith, (plan-fit _ _ _ _ _ c.plan_level.ensures.answer c.in-Ok.is).2)

pub overflow_cast-r : goal.overflow_cast-r
overflow_cast-r c = omega (arith, (plan-fit _ _ _ _ _ c.plan_level.ensures.answer c.in-Err.is).0)
