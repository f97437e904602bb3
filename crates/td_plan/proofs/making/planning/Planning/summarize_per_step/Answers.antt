use Rattle.std.proofs.Common.{◌≡◌, ◌∙◌, subst, sym}
use Rattle.std.specs.Prelude.{IfNone, IfSome}
use Rattle.td_check.specs.model.Scopes.{entered_with}
use Rattle.td_check.specs.model.StaticTypes.{type_of}
use Rattle.td_eval.specs.model.AggregateValues.{summary_attributes}
use Rattle.td_plan.proofs.PlannedAnswers.{untyped_planned}
use Rattle.td_plan.proofs.PlannedSummaries.{aggregates_are, per_of_none, per_of_refused, summary_planned}
use Rattle.td_plan.specs.code.PlannedParts.{AreFoundColumns, in_summaries}
use Rattle.td_tree.specs.model.Outcomes.{Valued}
use Rattle.td_tree.specs.code.TreeViews.{summaries_view, tree_view}
use Rattle.td_tree.specs.model.Trees as trees
use Rattle.td_types.specs.model.Types.{Heading, pack, relation}
use Rattle.td_plan.proofs.StepRows.{summarize_per_is}
use Rattle.td_plan.specs.code.PlansOf.{IsPlanOfTyped}
use Rattle.td_plan.specs.code.StepViews.{step_view, steps_view}
use Rattle.td_types.specs.code.Views.{pairs_view}
use Rattle.td_plan.proofs.making.planning.Planning.summarize_per_step.Goals as goal

pub returns : goal.returns
returns g c =
    let scope = c.args.self.now.planner.now.scope in
    let d = tree_view c.args.operand.now in
    let q = tree_view c.args.per.now in
    let items = summaries_view c.args.items.now in
    let h = c.in-Some.heading in
    let inner = entered_with h scope in
    let p = c.in_ok-operand.operand in
    let r = c.in_ok-per.per in
    let slot = c.next_slot-slot.result in
    let aggregates = c.in_ok-aggregates.aggregates in
    let attributes = c.in-Some-2.columns.attributes in
    let values = c.in-Some-2.columns.values in
    let columns = subst (λ o. AreFoundColumns inner o (summary_attributes inner items) (in_summaries items)) c.in-Some-2.is c.in_ok-columns.ensures in
    subst (λ x. IsPlanOfTyped scope x (trees.summarize_per d q items)) (sym (summarize_per_is p r attributes aggregates slot values))
    (summary_planned scope (step_view p.value) (pairs_view attributes.items) aggregates.items slot (steps_view values.items)
    d items h c.next_slot-slot.ensures c.in_ok-operand.ensures
    (subst (λ o. IfSome o (λ h. type_of scope d ≡ Valued (relation (pack h)))) c.in-Some.is c.in_ok-heading.ensures.some) columns.0
    (c.in_ok-aggregates.ensures ∙ sym (aggregates_are c.args.items.now)) columns.1
    (step_view r.value) q c.in_ok-per.ensures)

pub returns-in_default : goal.returns-in_default
returns-in_default g c =
    let scope = c.args.self.now.planner.now.scope in
    let d = tree_view c.args.operand.now in
    let q = tree_view c.args.per.now in
    let items = summaries_view c.args.items.now in
    untyped_planned scope c.step_of.result (trees.summarize_per d q items)
    (per_of_none scope d items
    (subst (λ o. IfNone o ((h : Heading) → type_of scope d ≡ Valued (relation (pack h)) → ⊥)) c.in_default.is c.in_ok-heading.ensures.none)
    q)

pub returns-in_default-2 : goal.returns-in_default-2
returns-in_default-2 g c =
    let scope = c.args.self.now.planner.now.scope in
    let d = tree_view c.args.operand.now in
    let q = tree_view c.args.per.now in
    let items = summaries_view c.args.items.now in
    let inner = entered_with c.in-Some.heading scope in
    untyped_planned scope c.step_of-in_default-2.result (trees.summarize_per d q items)
    (per_of_refused scope d items c.in-Some.heading
    (subst (λ o. IfSome o (λ h. type_of scope d ≡ Valued (relation (pack h)))) c.in-Some.is c.in_ok-heading.ensures.some)
    (subst (λ o. AreFoundColumns inner o (summary_attributes inner items) (in_summaries items)) c.in_default-2.is c.in_ok-columns.ensures) q)
