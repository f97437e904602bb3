use Rattle.std.proofs.Common.{◌≡◌, subst}
use Rattle.std.specs.Prelude.{IfNone, IfSome}
use Rattle.td_check.specs.model.OperatorTypes.{aggregate_type}
use Rattle.td_check.specs.model.Scopes.{entered_with}
use Rattle.td_check.specs.model.StaticTypes.{type_of}
use Rattle.td_plan.proofs.PlannedAnswers.{relation_typed, untyped_planned}
use Rattle.td_tree.specs.model.Outcomes.{Valued, with_value}
use Rattle.td_tree.specs.code.TreeViews.{tree_view}
use Rattle.td_tree.specs.model.Trees as trees
use Rattle.td_types.specs.model.Types.{Heading, pack, relation}
use Rattle.td_plan.proofs.PlannedTuples.{aggregation_planned}
use Rattle.td_plan.specs.code.PlansOf.{IsPlanOfTyped}
use Rattle.td_plan.specs.code.StepViews.{step_view}
use Rattle.td_plan.proofs.making.planning.Planning.aggregate_step.Goals as goal

pub returns : goal.returns
returns g c =
    let scope = c.args.self.now.planner.now.scope in
    let d = tree_view c.args.operand.now in
    let e = tree_view c.args.value.now in
    let value = step_view c.in_ok-boxed_there.field-0.value in
    aggregation_planned scope c.args.op (step_view c.in_ok-operand.operand.value) c.next_slot-slot.result value
    d e c.in-Some.heading c.next_slot-slot.ensures c.in_ok-operand.ensures
    (subst (λ o. IfSome o (λ h. type_of scope d ≡ Valued (relation (pack h)))) c.in-Some.is c.in_ok-heading.ensures.some)
    (subst (λ s. IsPlanOfTyped s value e) c.in_ok-inner.ensures.scope c.in_ok-boxed_there.ensures)

pub returns-in_default : goal.returns-in_default
returns-in_default g c =
    let scope = c.args.self.now.planner.now.scope in
    let d = tree_view c.args.operand.now in
    let e = tree_view c.args.value.now in
    untyped_planned scope c.step_of.result (trees.aggregate c.args.op d e)
    (λ kind typed.
    let found = relation_typed (type_of scope d) (λ s h. with_value (type_of (entered_with h scope) e) (aggregate_type c.args.op)) kind typed in
    (subst (λ o. IfNone o ((h : Heading) → type_of scope d ≡ Valued (relation (pack h)) → ⊥)) c.in_default.is c.in_ok-heading.ensures.none)
    found.0 found.1)
