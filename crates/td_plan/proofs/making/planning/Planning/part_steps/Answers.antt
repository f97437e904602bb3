use Rattle.std.proofs.Common.{ap, map, subst}
use Rattle.std.proofs.lemmas.List.{take_all}
use Rattle.td_plan.proofs.PlannedLists.{one_more_planned}
use Rattle.td_plan.proofs.TreeWeights.{weight_named}
use Rattle.td_plan.specs.code.PlannedParts.{ArePlansOfTyped, part_tree}
use Rattle.td_plan.specs.code.StepViews.{steps_view}
use Rattle.td_plan.proofs.PlannedBelow.{lower}
use Rattle.td_plan.proofs.making.planning.Planning.part_steps.Goals as goal

pub returns : goal.returns
returns g c =
    subst (ArePlansOfTyped c.args.self.now.planner.now.scope (steps_view c.loop-part.steps.items)) (ap (map part_tree) (take_all c.loop-part.part-index c.args.parts.now c.loop-part-test.false)) c.loop-part.invariant

pub loop-part-preserved : goal.loop-part-preserved
loop-part-preserved g c =
    one_more_planned c.args.self.now.planner.now.scope part_tree c.loop-part.steps.items c.push.new.self.items c.in_ok-step_of.field-0 c.args.parts.now c.loop-part.part-index c.part-item.result
    c.loop-part-test.true c.part-item.is c.in_ok-push.ensures.items c.loop-part.invariant c.in_ok-step_of.ensures

pub step_of-requires : goal.step_of-requires
step_of-requires g c = lower (weight_named c.args.parts.now c.loop-part.part-index c.part-item.result c.loop-part-test.true c.part-item.is) c.requires
