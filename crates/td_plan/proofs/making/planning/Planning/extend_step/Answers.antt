use Rattle.std.proofs.Common.{◌≡◌, subst, sym}
use Rattle.std.specs.Prelude.{IfNone, IfSome}
use Rattle.td_check.specs.model.OperatorTypes.{extension_type, setting_type}
use Rattle.td_check.specs.model.Scopes.{entered_with}
use Rattle.td_check.specs.model.StaticTypes.{named_types, type_of}
use Rattle.td_plan.proofs.PlannedAnswers.{parts_typed, relation_typed, untyped_planned}
use Rattle.td_plan.specs.code.PlannedParts.{AreFoundColumns, in_named}
use Rattle.td_tree.specs.model.Outcomes.{Valued, with_value}
use Rattle.td_tree.specs.code.TreeViews.{named_view, tree_view}
use Rattle.td_tree.specs.model.Trees as trees
use Rattle.td_types.specs.model.Types.{Heading, pack, relation}
use Rattle.td_plan.proofs.PlannedTuples.{extension_planned, setting_planned}
use Rattle.td_plan.proofs.StepRows.{extend_is}
use Rattle.td_plan.specs.code.PlansOf.{IsPlanOfTyped}
use Rattle.td_plan.specs.code.StepViews.{step_view, steps_view}
use Rattle.td_types.specs.code.Views.{pairs_view}
use Rattle.td_plan.proofs.making.planning.Planning.extend_step.Goals as goal

pub returns : goal.returns
returns g c =
    let scope = c.args.self.now.planner.now.scope in
    let h = c.in-Some.heading in
    let inner = entered_with h scope in
    let d = tree_view c.args.operand.now in
    let es = named_view c.args.parts.now in
    let static = subst (λ o. IfSome o (λ h. type_of scope d ≡ Valued (relation (pack h)))) c.in-Some.is c.in_ok-heading.ensures.some in
    let columns = subst (λ o. AreFoundColumns inner o (named_types inner es) (in_named es)) c.in-Some-2.is c.in_ok-columns.ensures in
    let p = c.in_ok-boxed_step.field-0 in
    let slot = c.next_slot-slot.result in
    let xs = pairs_view c.in-Some-2.columns.attributes.items in
    let values = steps_view c.in-Some-2.columns.values.items in
    let is = sym (extend_is p c.in-Some-2.columns.attributes slot c.in-Some-2.columns.values) in (
      subst (λ x. IsPlanOfTyped scope x (trees.extend d es)) is
          (extension_planned scope (step_view p.value) xs slot values d es h c.next_slot-slot.ensures c.in_ok-boxed_step.ensures static columns.0 columns.1),
      subst (λ x. IsPlanOfTyped scope x (trees.extend_setting d es)) is
          (setting_planned scope (step_view p.value) xs slot values d es h c.next_slot-slot.ensures c.in_ok-boxed_step.ensures static columns.0 columns.1),
    )

pub returns-in_default : goal.returns-in_default
returns-in_default g c =
    let scope = c.args.self.now.planner.now.scope in
    let d = tree_view c.args.operand.now in
    let es = named_view c.args.parts.now in
    let none = subst (λ o. IfNone o ((h : Heading) → type_of scope d ≡ Valued (relation (pack h)) → ⊥)) c.in_default.is c.in_ok-heading.ensures.none in (
      untyped_planned scope c.step_of.result (trees.extend d es)
          (λ kind typed.
          let found = relation_typed (type_of scope d) (λ s h. with_value (named_types (entered_with h scope) es) (extension_type h)) kind typed in
          none found.0 found.1),
      untyped_planned scope c.step_of.result (trees.extend_setting d es)
          (λ kind typed.
          let found = relation_typed (type_of scope d) (λ s h. with_value (named_types (entered_with h scope) es) (setting_type h)) kind typed in
          none found.0 found.1),
    )

pub returns-in_default-2 : goal.returns-in_default-2
returns-in_default-2 g c =
    let scope = c.args.self.now.planner.now.scope in
    let inner = entered_with c.in-Some.heading scope in
    let d = tree_view c.args.operand.now in
    let es = named_view c.args.parts.now in
    let static = subst (λ o. IfSome o (λ h. type_of scope d ≡ Valued (relation (pack h)))) c.in-Some.is c.in_ok-heading.ensures.some in
    let none = subst (λ o. AreFoundColumns inner o (named_types inner es) (in_named es)) c.in_default-2.is c.in_ok-columns.ensures in (
      untyped_planned scope c.step_of-in_default-2.result (trees.extend d es)
          (λ kind typed. let found = parts_typed scope d c.in-Some.heading es extension_type kind static typed in none found.0 found.1),
      untyped_planned scope c.step_of-in_default-2.result (trees.extend_setting d es)
          (λ kind typed. let found = parts_typed scope d c.in-Some.heading es setting_type kind static typed in none found.0 found.1),
    )
