-- Each level has its own plan, and so both meet the demands.
use Rattle.std.proofs.Common.{◌≡◌, ap₂}
use Rattle.planner.specs.Plan.{both_of}
use Rattle.records.specs.declared.setup.PerLevel.{PerLevel}
use Rattle.planner.proofs.Demands.{both-met}
use Rattle.planner.proofs.plan_levels.Goals as goal
use Rattle.planner.specs.Plan.{Plan}

-- the two answers of a level each
abbrev plans : Plan → Plan → PerLevel Plan
plans p u = record { privileged = p; unprivileged = u }

pub returns : goal.returns
unfolding both_of
returns c =
    let e : plans c.plan_level.result c.plan_level-2.result ≡ both_of c.args.setup.now c.args.leaves.now = ap₂ plans c.plan_level.ensures.answer c.plan_level-2.ensures.answer in
    record { answer = e; demands = both-met _ _ _ e }
