use Rattle.std.proofs.Common.{◌*◌, ◌+◌}
use Rattle.td_plan.specs.code.TreeWeights.{expr_weight}
use Rattle.td_plan.proofs.making.planning.Planning.+restriction.Given as goal

abbrev pub decreases-where_of : goal.decreases-where_of
decreases-where_of g l = 3 * expr_weight l.expr.now

abbrev pub decreases-where_pushed : goal.decreases-where_pushed
decreases-where_pushed g l = 3 * expr_weight l.operand.now + 1

abbrev pub decreases-pushed_restriction : goal.decreases-pushed_restriction
decreases-pushed_restriction g l = 3 * (expr_weight l.left.now + expr_weight l.right.now) + 2
