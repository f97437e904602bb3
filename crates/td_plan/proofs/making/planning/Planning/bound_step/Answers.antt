use Rattle.std.proofs.Common.{◌≡◌, ◌∙◌, ◌+◌, ap, arith, subst, sym}
use Rattle.std.specs.Prelude.{IfNone, IfSome}
use Rattle.td_check.specs.model.StaticTypes.{type_of}
use Rattle.td_plan.proofs.PlannedAnswers.{untyped_planned}
use Rattle.td_plan.proofs.PlannedBelow.{lower}
use Rattle.td_plan.proofs.PlannedBound.{ArePlannedTo, AreTypedTo, all_planned, bound_planned, planned_to_next, typed_here, typed_to_next}
use Rattle.td_plan.proofs.StepRows.{bound_is}
use Rattle.td_plan.proofs.TreeWeights.{weight_named}
use Rattle.td_plan.specs.code.Plans as plans
use Rattle.td_plan.specs.code.PlansOf.{IsPlanOfTyped}
use Rattle.td_plan.specs.code.StepViews.{step_view, steps_view}
use Rattle.td_tree.specs.model.Outcomes.{Valued}
use Rattle.td_tree.specs.code.TreeViews.{named_view, tree_view}
use Rattle.td_tree.specs.model.Trees as trees
use Rattle.td_types.specs.model.Types.{Type'}
use Rattle.td_types.specs.code.Views.{type_view}
use Rattle.td_plan.proofs.making.planning.Planning.bound_step.Goals as goal

pub step_there-step-requires-clause-below : goal.step_there-step-requires-clause-below
step_there-step-requires-clause-below g c =
    let low = weight_named c.args.items.now c.loop-item.item-index c.item-item.result c.loop-item-test.true c.item-item.is in
    lower (omega (arith, low)) c.requires

pub step_there-requires-clause-below : goal.step_there-requires-clause-below
step_there-requires-clause-below g c = lower (omega arith) c.requires

pub loop-item-preserved : goal.loop-item-preserved
loop-item-preserved g c =
    let scope = c.args.self.now.planner.now.scope in
    let items = c.args.items.now in
    let i = c.loop-item.item-index in
    let x = c.item-item.result in
    let here = c.loop-item.inner.scope in
    let u = type_view c.in-Some.ty in
    let typed : type_of here (tree_view x.value) ≡ Valued u =
    subst (λ o. IfSome o (λ t. type_of here (tree_view x.value) ≡ Valued (type_view t))) c.in-Some.is c.in_ok-ty.ensures.some in
    let planned = c.in_ok-item_step.ensures here (tree_view x.value) c.step_there-step.ensures in (
      c.in_ok-bind.ensures.planner,
      subst (λ z. ArePlannedTo scope items (i + 1) c.push.new.self.items z) (sym c.in_ok-bind.ensures.scope)
          (planned_to_next scope items i x c.loop-item-test.true c.item-item.is here c.loop-item.steps.items c.push.new.self.items c.in_ok-item_step.field-0 u
          c.in_ok-push.ensures.items typed planned c.loop-item.invariant.1),
      subst (λ z. AreTypedTo scope items (i + 1) z) (sym c.in_ok-bind.ensures.scope)
          (typed_to_next scope items i x c.loop-item-test.true c.item-item.is here u typed c.loop-item.invariant.2),
    )

pub returns-in_default : goal.returns-in_default
returns-in_default g c =
    let scope = c.args.self.now.planner.now.scope in
    let items = c.args.items.now in
    let x = c.item-item.result in
    let here = c.loop-item.inner.scope in
    let value = tree_view c.args.value.now in
    untyped_planned scope c.step_of.result (trees.binding (named_view items) value)
    (λ t typed.
    let found = typed_here scope items c.loop-item.item-index x c.loop-item-test.true c.item-item.is here (λ inner. type_of inner value) t typed c.loop-item.invariant.2 in
    (subst (λ o. IfNone o ((t : Type') → type_of here (tree_view x.value) ≡ Valued t → ⊥)) c.in_default.is c.in_ok-ty.ensures.none) found.0 found.1)

pub returns : goal.returns
returns g c =
    let scope = c.args.self.now.planner.now.scope in
    let items = c.args.items.now in
    let last = c.loop-item.inner.scope in
    let steps = c.loop-item.steps in
    let slot = c.next_slot-slot.result in
    let value = tree_view c.args.value.now in
    let box = c.in_ok-new.field-0 in
    subst (λ p. IsPlanOfTyped scope p (trees.binding (named_view items) value))
    (sym (bound_is slot slot steps box ∙ ap (λ v. plans.bound slot (steps_view steps.items) (step_view v)) c.in_ok-new.ensures.ok))
    (bound_planned scope slot steps.items (step_view c.in_ok-value.value) (named_view items) value last c.next_slot-slot.ensures
    (all_planned scope items c.loop-item.item-index steps.items last c.loop-item-test.false c.loop-item.invariant.1) c.in_ok-value.ensures)
