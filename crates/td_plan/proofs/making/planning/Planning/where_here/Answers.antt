use Rattle.std.proofs.Common.{◌≡◌, subst}
use Rattle.std.proofs.lemmas.Result.{IfOk-weaker}
use Rattle.std.specs.Prelude.{IfNone, IfSome}
use Rattle.td_check.specs.model.OperatorTypes.{restriction_type}
use Rattle.td_check.specs.model.Scopes.{entered_with}
use Rattle.td_check.specs.model.StaticTypes.{type_of}
use Rattle.td_plan.proofs.PlannedAnswers.{relation_typed}
use Rattle.td_tree.specs.model.Outcomes.{Valued, with_value}
use Rattle.td_tree.specs.code.TreeViews.{tree_view}
use Rattle.td_types.specs.model.Types.{Heading, pack}
use Rattle.td_types.specs.model.Types as types
use Rattle.td_plan.proofs.PlannedTuples.{restriction_planned}
use Rattle.td_plan.specs.code.PlansOf.{IsPlanOfTyped}
use Rattle.td_plan.specs.code.StepViews.{step_view}
use Rattle.td_plan.proofs.making.planning.Planning.where_here.Goals as goal

pub returns : goal.returns
returns g c =
    let scope = c.args.self.now.planner.now.scope in
    let d = tree_view c.args.expr.now in
    let static = subst (λ o. IfSome o (λ h. type_of scope d ≡ Valued (types.relation (pack h)))) c.in-Some.is c.in_ok-heading.ensures.some in
    let e = tree_view c.args.condition.now in
    let condition = step_view c.in_ok-condition.condition.value in
    restriction_planned scope (step_view c.in_ok-operand.operand.value) c.next_slot-slot.result condition
    d e c.in-Some.heading c.next_slot-slot.ensures (c.in_ok-operand.ensures static) static
    (subst (λ s. IsPlanOfTyped s condition e) c.in_ok-inner.ensures.scope c.in_ok-condition.ensures)

pub returns-in_default : goal.returns-in_default
returns-in_default g c =
    let scope = c.args.self.now.planner.now.scope in
    let d = tree_view c.args.expr.now in
    let e = tree_view c.args.condition.now in
    let none = subst (λ o. IfNone o ((h : Heading) → type_of scope d ≡ Valued (types.relation (pack h)) → ⊥)) c.in_default.is c.in_ok-heading.ensures.none in
    IfOk-weaker c.step_of.result _ _
    (λ p plan written kind typed.
    let found = relation_typed (type_of scope d) (λ s h. with_value (type_of (entered_with h scope) e) (restriction_type s)) kind typed in
    absurd (none found.0 found.1))
    c.step_of.ensures
