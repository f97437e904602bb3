use Rattle.std.proofs.Common.{◌∙◌, ap, subst, sym}
use Rattle.td_plan.specs.code.PlannedParts.{ArePlanned, in_trees}
use Rattle.td_plan.specs.declared.plan.step.Selector.TheVariants as selectors
use Rattle.td_plan.specs.code.PlansOf.{IsPlanOfTyped}
use Rattle.td_plan.specs.code.StepViews.{steps_view}
use Rattle.td_plan.proofs.PlannedNodes.{headed_planned}
use Rattle.td_plan.proofs.StepRows.{select_is}
use Rattle.td_tree.specs.code.TreeViews.{heading_tree_view}
use Rattle.td_tree.specs.model.Trees as trees
use Rattle.td_types.specs.model.TypeLists.{heading_meant}
use Rattle.td_plan.proofs.making.nodes.headed_step.Goals as goal

pub returns-in-Ok : goal.returns-in-Ok
returns-in-Ok g c = λ es all.
    let scope = c.args.planner.now.scope in
    let heading = heading_tree_view c.args.heading.now in
    let elements = c.in_ok-elements.elements in
    let known = c.declared_types.ensures ∙ sym (ap (λ s. s.types) c.requires) in
    subst (λ p. IsPlanOfTyped scope p (trees.headed_relation heading es)) (sym (select_is (selectors.HeadedRelation c.in-Ok.heading) elements))
    (headed_planned scope heading c.in-Ok.heading (steps_view elements.items) es
    (ap (λ ds. heading_meant ds heading) (sym known) ∙ c.in-Ok.ensures) (subst (λ o. ArePlanned scope o (in_trees es)) c.in_ok-elements.was all))
