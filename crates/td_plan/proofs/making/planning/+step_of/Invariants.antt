use Rattle.td_plan.specs.code.TreeWeights.{expr_weight}
use Rattle.td_plan.proofs.making.planning.+step_of.Given as goal

abbrev pub decreases-step_of : goal.decreases-step_of
decreases-step_of g l = expr_weight l.expr.now
