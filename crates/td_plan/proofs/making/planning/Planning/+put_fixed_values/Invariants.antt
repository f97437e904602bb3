use Rattle.td_plan.specs.code.TreeWeights.{expr_weight}
use Rattle.td_plan.proofs.making.planning.Planning.+put_fixed_values.Given as goal

abbrev pub decreases-put_fixed_values : goal.decreases-put_fixed_values
decreases-put_fixed_values g l = expr_weight l.condition.now
