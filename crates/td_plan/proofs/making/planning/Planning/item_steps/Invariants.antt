use Rattle.std.proofs.Common.{map, take}
use Rattle.td_plan.specs.code.PlannedParts.{ArePlansOfTyped, item_tree}
use Rattle.td_plan.specs.code.StepViews.{steps_view}
use Rattle.td_plan.proofs.making.planning.Planning.item_steps.Given as goal

abbrev pub invariant-loop-item : goal.invariant-loop-item
invariant-loop-item g l = ArePlansOfTyped l.self.planner.now.scope (steps_view l.steps.items) (map item_tree (take l.item-index l.items))
