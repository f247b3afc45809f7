-- The answer is the judgement, and so the demands hold of it.
use Rattle.judge.proofs.Demands.{judge-met}
use Rattle.judge.proofs.access.judge_access.Goals as goal

pub returns : goal.returns
returns c = let m = judge-met _ _ _ _ c.judge_bytes.ensures in record { answer = m.0; demands = m.1 }
