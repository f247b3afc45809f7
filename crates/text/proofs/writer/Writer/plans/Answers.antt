-- `plans` writes the planner's answer for each level. Assumes nothing.
use Rattle.text.proofs.WriterLaws.{then}
use Rattle.text.specs.Listing.{plan_lines}
use Rattle.text.proofs.writer.Writer.plans.Goals as goal

pub returns-clause-text : goal.returns-clause-text
unfolding plan_lines
returns-clause-text c =
    rw (← c.plan_level.ensures.answer, ← c.plan_level-2.ensures.answer)
    (then _ _ _ _ _ c.word.ensures (then _ _ _ _ _ c.plan.ensures.text (then _ _ _ _ _ c.word-2.ensures c.plan-2.ensures.text)))
