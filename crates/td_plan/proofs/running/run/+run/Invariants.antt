use Rattle.td_plan.specs.code.StepHeights.{step_height}
use Rattle.td_plan.proofs.running.run.+run.Given as goal

abbrev pub decreases-run : goal.decreases-run
decreases-run g l = step_height l.step.now
