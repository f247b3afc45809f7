-- The answer is the plan, and so the demands hold of it.
use Rattle.planner.proofs.Demands.{plan-met}
use Rattle.planner.proofs.plan_level.Goals as goal

pub returns : goal.returns
returns c = record { answer = c.planned.ensures; demands = plan-met _ _ _ _ c.planned.ensures }
