use Rattle.std.proofs.Common.{ap, map, subst}
use Rattle.std.proofs.lemmas.List.{take_all}
use Rattle.td_plan.proofs.PlannedLists.{one_more_planned}
use Rattle.td_plan.proofs.TreeWeights.{weight_item}
use Rattle.td_plan.specs.code.PlannedParts.{ArePlansOfTyped, item_tree}
use Rattle.td_plan.specs.code.StepViews.{steps_view}
use Rattle.td_plan.proofs.PlannedBelow.{lower}
use Rattle.td_plan.proofs.making.planning.Planning.item_steps.Goals as goal

pub returns : goal.returns
returns g c =
    subst (ArePlansOfTyped c.args.self.now.planner.now.scope (steps_view c.loop-item.steps.items)) (ap (map item_tree) (take_all c.loop-item.item-index c.args.items.now c.loop-item-test.false))
    c.loop-item.invariant

pub loop-item-preserved : goal.loop-item-preserved
loop-item-preserved g c =
    one_more_planned c.args.self.now.planner.now.scope item_tree c.loop-item.steps.items c.push.new.self.items c.in_ok-item_step.field-0 c.args.items.now c.loop-item.item-index c.item-item.result
    c.loop-item-test.true c.item-item.is c.in_ok-push.ensures.items c.loop-item.invariant c.in_ok-item_step.ensures

pub item_step-requires : goal.item_step-requires
item_step-requires g c = lower (weight_item c.args.items.now c.loop-item.item-index c.item-item.result c.loop-item-test.true c.item-item.is) c.requires
