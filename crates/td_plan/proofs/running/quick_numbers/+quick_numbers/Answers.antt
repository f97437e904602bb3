use Rattle.std.proofs.Common.{◌≡◌, ◌∙◌, Bor, ap, refl, subst, sym}
use Rattle.std.specs.List.{slice_get}
use Rattle.td_plan.proofs.QuickRows.{of_attribute, of_bound, of_outer, of_plan}
use Rattle.td_plan.proofs.StepParts.{bound_apart, bound_made, dyadic_made}
use Rattle.td_plan.specs.declared.plan.step.Dyadic.TheVariants as dyadics
use Rattle.td_plan.specs.code.Plans as plans
use Rattle.td_plan.specs.code.Hands.{slots_in}
use Rattle.td_plan.specs.code.Memos.{IsPart, IsSound}
use Rattle.td_plan.specs.code.Quick.{AreInRows, IsQuick}
use Rattle.td_plan.specs.code.QuickInside.{value_inside}
use Rattle.td_plan.specs.code.StepViews.{step_view, steps_view}
use Rattle.td_tree.specs.model.Outcomes.{Valued}
use Rattle.td_value.specs.model.Values.{Val, integer}
use Rattle.td_plan.proofs.running.quick_numbers.+quick_numbers.Goals as goal

pub returns-in-Constant : goal.returns-in-Constant
returns-in-Constant t c = λ ps w sound m.
    let rows = c.args.batch.now.rows.now in
    of_plan integer w c.args.batch.now.inside.now c.args.step.now (plans.constant c.in-Constant.value) rows c.same_numbers.result (ap step_view c.in-Constant.is)
    (c.same_numbers.ensures (Valued c.in-Constant.value) rows refl refl)

pub returns-in-Attribute : goal.returns-in-Attribute
returns-in-Attribute t c = λ ps w sound m.
    let i = c.in-Attribute in
    let inside = c.args.batch.now.inside.now in
    let rows = c.args.batch.now.rows.now in
    of_plan integer w inside c.args.step.now (plans.attribute i.slot i.place) rows c.attribute_numbers.result (ap step_view i.is)
    (of_attribute integer w inside i.slot i.place rows c.attribute_numbers.result c.if-slot-batch.true c.attribute_numbers.ensures)

pub returns-in-Attribute-2 : goal.returns-in-Attribute-2
returns-in-Attribute-2 t c = λ ps w sound m.
    let i = c.in-Attribute-2 in
    let inside = c.args.batch.now.inside.now in
    let rows = c.args.batch.now.rows.now in
    let found = c.same_numbers-in-Attribute-2.result in
    let same : c.in-Attribute.slot ≡ i.slot = (let is = sym c.in-Attribute.is ∙ i.is in cc) in
    let o = plans.value_or (slice_get (slots_in inside.outer.items i.slot) i.place) in
    of_plan integer w inside c.args.step.now (plans.attribute i.slot i.place) rows found (ap step_view i.is)
    (of_outer integer w inside i.slot i.place rows found (λ here. c.if-slot-batch.false (same ∙ here))
    (c.same_numbers-in-Attribute-2.ensures o rows
    (subst (λ outer. IsQuick (λ (v : Bor Val). v.now) c.outer_value-found.result (plans.value_or (slice_get (slots_in outer i.slot) i.place))) c.deref.ensures.value c.outer_value-found.ensures) refl))

pub returns-in_ok-right-in-Operator : goal.returns-in_ok-right-in-Operator
returns-in_ok-right-in-Operator t c = λ ps w sound m.
    let i = c.in-Dyadic in
    let o = c.in-Operator in
    let l = c.deref-in-Operator.result.now in
    let r = c.deref-in-Operator-2.result.now in
    let inside = c.args.batch.now.inside.now in
    let rows = c.args.batch.now.rows.now in
    let made = dyadic_made c.args.step.now i.left i.right l r i.op (dyadics.Operator o.op) i.is o.is c.deref-in-Operator.ensures c.deref-in-Operator-2.ensures in
    let f = value_inside w inside l in
    let g = value_inside w inside r in
    of_plan integer w inside c.args.step.now _ rows c.numbers_of_both.result made.view
    (c.numbers_of_both.ensures f g rows
    (subst (AreInRows integer f rows) (sym c.deref-in-Operator-3.ensures.value) (c.in_ok-left-in-Operator.ensures ps w (made.sound ps sound).0 m))
    (subst (AreInRows integer g rows) (sym c.deref-in-Operator-4.ensures.value) (c.in_ok-right-in-Operator.ensures ps w (made.sound ps sound).1 m)))

pub returns-in_ok-inside-in-Bound : goal.returns-in_ok-inside-in-Bound
returns-in_ok-inside-in-Bound t c = λ ps w sound m.
    let b = c.in-Bound in
    let xs = c.deref-in-Bound.result.now in
    let d = c.deref-in-Bound-2.result.now in
    let step = c.args.step.now in
    let made = bound_made step b.items xs c.deref-in-Bound.ensures.value b.slot b.reach b.value d b.is c.deref-in-Bound-2.ensures in
    let there = c.in_ok-inside-in-Bound.ensures ps w (made.sound ps sound).0 (bound_apart step b.items xs c.deref-in-Bound.ensures.value b.slot b.reach b.value ps b.is sound) m in
    of_bound integer w c.args.batch.now.inside.now c.in_ok-inside-in-Bound.field-0 step d b.slot (steps_view xs) c.args.batch.now.rows.now c.quick_numbers-in-Bound.result made.view there.1
    (c.quick_numbers-in-Bound.ensures ps w (made.sound ps sound).1 there.0)

pub returns-in-Once : goal.returns-in-Once
returns-in-Once t c = λ ps w sound m.
    let i = c.in-Once in
    let part = c.deref-in-Once.result.now in
    let both : IsPart ps i.place i.reach (step_view i.part.value) × IsSound ps i.part.value = subst (IsSound ps) i.is sound in
    of_plan integer w c.args.batch.now.inside.now c.args.step.now (step_view part) c.args.batch.now.rows.now c.quick_numbers-in-Once.result (ap step_view i.is ∙ ap step_view (sym c.deref-in-Once.ensures))
    (c.quick_numbers-in-Once.ensures ps w (subst (IsSound ps) (sym c.deref-in-Once.ensures) both.1) m)
