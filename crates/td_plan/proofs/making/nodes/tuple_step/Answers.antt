use Rattle.std.proofs.Common.{◌∙◌, map, subst, sym}
use Rattle.td_plan.specs.code.PlannedParts.{ArePlanned, ArePlansOfTyped, part_tree}
use Rattle.td_plan.specs.declared.plan.step.Selector.TheVariants as selectors
use Rattle.td_plan.specs.code.PlansOf.{IsPlanOfTyped}
use Rattle.td_plan.specs.code.StepViews.{steps_view}
use Rattle.td_plan.proofs.PlannedLists.{names_are, parts_are}
use Rattle.td_plan.proofs.PlannedNodes.{tuple_planned}
use Rattle.td_plan.proofs.StepRows.{select_is}
use Rattle.td_tree.specs.code.TreeViews.{named_view}
use Rattle.td_tree.specs.model.Trees as trees
use Rattle.td_plan.proofs.making.nodes.tuple_step.Goals as goal

pub returns : goal.returns
returns c = λ scope all.
    let parts = c.args.parts.now in
    let values = c.in_ok-values.values in
    let ps = steps_view values.items in
    let names = c.in_ok-names.names in
    subst (λ p. IsPlanOfTyped scope p (trees.tuple (named_view parts))) (sym (select_is (selectors.Tuple names) values))
    (tuple_planned scope names.items ps (named_view parts) (c.in_ok-names.ensures ∙ sym (names_are parts))
    (subst (ArePlansOfTyped scope ps) (sym (parts_are parts)) (subst (λ o. ArePlanned scope o (map part_tree parts)) c.in_ok-values.was all)))
