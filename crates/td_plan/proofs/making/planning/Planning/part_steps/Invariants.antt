use Rattle.std.proofs.Common.{map, take}
use Rattle.td_plan.specs.code.PlannedParts.{ArePlansOfTyped, part_tree}
use Rattle.td_plan.specs.code.StepViews.{steps_view}
use Rattle.td_plan.proofs.making.planning.Planning.part_steps.Given as goal

abbrev pub invariant-loop-part : goal.invariant-loop-part
invariant-loop-part g l = ArePlansOfTyped l.self.planner.now.scope (steps_view l.steps.items) (map part_tree (take l.part-index l.parts))
