use Rattle.std.proofs.Common.{subst, sym}
use Rattle.td_plan.specs.code.PlannedParts.{ArePlanned, in_trees}
use Rattle.td_plan.specs.declared.plan.step.Selector.TheVariants as selectors
use Rattle.td_plan.specs.code.PlansOf.{IsPlanOfTyped}
use Rattle.td_plan.specs.code.StepViews.{steps_view}
use Rattle.td_plan.proofs.PlannedNodes.{relation_planned}
use Rattle.td_plan.proofs.StepRows.{select_is}
use Rattle.td_tree.specs.model.Trees as trees
use Rattle.td_plan.proofs.making.nodes.relation_step.Goals as goal

pub returns : goal.returns
returns c = λ scope es all.
    let elements = c.in_ok-elements.field-0 in
    subst (λ p. IsPlanOfTyped scope p (trees.relation es)) (sym (select_is selectors.Relation elements))
    (relation_planned scope (steps_view elements.items) es (subst (λ o. ArePlanned scope o (in_trees es)) c.in_ok-elements.was all))
