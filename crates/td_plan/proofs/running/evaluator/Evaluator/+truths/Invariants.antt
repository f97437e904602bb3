use Rattle.td_plan.specs.code.StepHeights.{step_height}
use Rattle.td_plan.proofs.running.evaluator.Evaluator.+truths.Given as goal

abbrev pub decreases-truths : goal.decreases-truths
decreases-truths g l = step_height l.condition.now
