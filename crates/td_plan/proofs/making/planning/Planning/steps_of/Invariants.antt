use Rattle.std.proofs.Common.{map, take}
use Rattle.td_plan.specs.code.PlannedParts.{ArePlansOfTyped}
use Rattle.td_plan.specs.code.StepViews.{steps_view}
use Rattle.td_tree.specs.code.TreeViews.{tree_view}
use Rattle.td_plan.proofs.making.planning.Planning.steps_of.Given as goal

abbrev pub invariant-loop-expr : goal.invariant-loop-expr
invariant-loop-expr g l = ArePlansOfTyped l.self.planner.now.scope (steps_view l.steps.items) (map tree_view (take l.expr-index l.exprs))
