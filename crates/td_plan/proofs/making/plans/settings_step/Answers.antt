use Rattle.std.proofs.Common.{◌≡◌, ◌∙◌, ap, subst, sym}
use Rattle.td_check.specs.model.Scopes.{entered_with}
use Rattle.td_plan.proofs.PlannedLists.{parts_are}
use Rattle.td_plan.proofs.PlannedSettings.{settings_planned}
use Rattle.td_plan.proofs.StepRows.{extend_is}
use Rattle.td_plan.specs.code.Plans.{PlanTree, constant, extend}
use Rattle.td_plan.specs.code.PlansOf.{ArePlannedSettings}
use Rattle.td_plan.specs.code.PlannedParts.{ArePlansOfTyped, in_named}
use Rattle.td_plan.specs.code.StepViews.{step_view, steps_view}
use Rattle.td_tree.specs.code.TreeViews.{named_view}
use Rattle.td_types.specs.code.Views.{pairs_view}
use Rattle.td_value.specs.model.Values.{relation_value}
use Rattle.td_plan.proofs.making.plans.settings_step.Goals as goal

pub returns : goal.returns
returns g c =
    let scope = c.args.planner.now.scope in
    let r = c.args.rel.now in
    let attributes = c.args.attributes in
    let xs = pairs_view attributes.items in
    let slot = c.next_slot.result in
    let values = c.in_ok-values.values in
    let operand = c.in_ok-operand.operand in
    let parts = named_view c.args.parts.now in
    let ps = steps_view values.items in
    let made : step_view operand.value ≡ constant (relation_value r) =
    ap step_view c.in_ok-operand.ensures.ok ∙ ap constant (c.in_ok-relation.ensures ∙ ap relation_value c.in_ok-try_clone.ensures) in
    let is = sym (extend_is operand attributes slot values ∙ ap (λ (o : PlanTree). extend o xs slot ps) made) in
    let entered = c.in_ok-inner.ensures.scope ∙ ap (λ h. entered_with h scope) c.heading.ensures in
    subst (λ p. ArePlannedSettings scope p r xs parts) is
    (settings_planned scope r xs slot ps parts c.next_slot.ensures
    (subst (λ s. ArePlansOfTyped s ps (in_named parts)) entered
    (subst (ArePlansOfTyped c.in_ok-inner.inner.scope ps) (sym (parts_are c.args.parts.now)) c.in_ok-values.ensures)))
