use Rattle.std.proofs.Common.{ap, map, subst}
use Rattle.std.proofs.lemmas.List.{take_all}
use Rattle.td_plan.proofs.PlannedLists.{one_more_planned}
use Rattle.td_plan.proofs.TreeWeights.{weight_part}
use Rattle.td_plan.specs.code.PlannedParts.{ArePlansOfTyped}
use Rattle.td_plan.specs.code.StepViews.{steps_view}
use Rattle.td_tree.specs.code.TreeViews.{tree_view}
use Rattle.td_plan.proofs.PlannedBelow.{lower}
use Rattle.td_plan.proofs.making.planning.Planning.steps_of.Goals as goal

pub returns : goal.returns
returns g c =
    subst (ArePlansOfTyped c.args.self.now.planner.now.scope (steps_view c.loop-expr.steps.items)) (ap (map tree_view) (take_all c.loop-expr.expr-index c.args.exprs.now c.loop-expr-test.false)) c.loop-expr.invariant

pub loop-expr-preserved : goal.loop-expr-preserved
loop-expr-preserved g c =
    one_more_planned c.args.self.now.planner.now.scope tree_view c.loop-expr.steps.items c.push.new.self.items c.in_ok-step_of.field-0 c.args.exprs.now c.loop-expr.expr-index c.expr-item.result
    c.loop-expr-test.true c.expr-item.is c.in_ok-push.ensures.items c.loop-expr.invariant c.in_ok-step_of.ensures

pub step_of-requires : goal.step_of-requires
step_of-requires g c = lower (weight_part c.args.exprs.now c.loop-expr.expr-index c.expr-item.result c.loop-expr-test.true c.expr-item.is) c.requires
