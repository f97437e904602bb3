use Rattle.std.proofs.Common.{◌≡◌, ◌∙◌, ◌∷◌, [], ap, subst, sym}
use Rattle.td_plan.proofs.PlannedNodes.{tuple_planned}
use Rattle.td_plan.proofs.StepRows.{select_is}
use Rattle.td_plan.specs.code.Plans as plans
use Rattle.td_plan.specs.code.PlansOf.{IsPlanOfTyped}
use Rattle.td_plan.specs.code.PlannedParts.{IsPlanned}
use Rattle.td_plan.specs.code.StepViews.{step_view, steps_view}
use Rattle.td_plan.specs.declared.plan.step.Selector.TheVariants as selectors
use Rattle.td_tree.specs.model.Trees as trees
use Rattle.td_plan.proofs.making.bound.item_step.Goals as goal

pub returns : goal.returns
returns c = λ scope e planned.
    let names = c.in_ok-names.names in
    let values = c.in_ok-values.values in
    let value = c.in_ok-value.value in
    let n = c.args.name.now in
    let item = trees.more_named n e trees.none_named in
    let same : names.items ≡ n ∷ [] = c.in_ok-names.ensures ∙ ap (λ x. x ∷ []) c.in_ok-try_clone.ensures in
    let view : steps_view values.items ≡ plans.more (step_view value) plans.none = ap steps_view c.in_ok-values.ensures in
    subst (λ p. IsPlanOfTyped scope p (trees.tuple item)) (sym (select_is (selectors.Tuple names) values ∙ ap (plans.select (plans.tuple names.items)) view))
    (tuple_planned scope names.items (plans.more (step_view value) plans.none) item same (subst (λ o. IsPlanned scope o e) c.in_ok-value.was planned, tt))
