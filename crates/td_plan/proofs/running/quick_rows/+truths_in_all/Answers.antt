use Rattle.std.proofs.Common.{◌∙◌, Some, ap, subst, sym}
use Rattle.std.proofs.lemmas.Result.{IfOk-weaker}
use Rattle.td_plan.proofs.Granted.{quick_granted}
use Rattle.td_plan.proofs.QuickRows.{negated, of_bound, of_plan}
use Rattle.td_plan.proofs.StepParts.{bound_apart, bound_made, dyadic_made}
use Rattle.td_eval.specs.model.OperatorValues.{prefix_value}
use Rattle.td_plan.specs.declared.plan.step.Dyadic.TheVariants as dyadics
use Rattle.td_plan.specs.declared.plan.step.Monadic.TheVariants as monadics
use Rattle.td_plan.specs.code.Plans as plans
use Rattle.td_plan.specs.code.Memos.{IsPart, IsSound}
use Rattle.td_plan.specs.code.Quick.{AreInRows}
use Rattle.td_plan.specs.code.QuickInside.{value_inside}
use Rattle.td_plan.specs.code.StepViews.{monadic_view, step_view, steps_view}
use Rattle.td_tree.specs.model.Outcomes.{with_value}
use Rattle.td_tree.specs.declared.operator.Prefix.TheVariants as prefixes
use Rattle.td_value.specs.model.Values.{boolean}
use Rattle.td_plan.proofs.running.quick_rows.+truths_in_all.Goals as goal

pub returns-in-Some : goal.returns-in-Some
returns-in-Some t c = λ ps w sound m.
    let i = c.in-Dyadic in
    let o = c.in-Comparison in
    let l = c.deref.result.now in
    let r = c.deref-in-Comparison.result.now in
    let made = dyadic_made c.args.condition.now i.left i.right l r i.op (dyadics.Comparison o.op) i.is o.is c.deref.ensures c.deref-in-Comparison.ensures in
    of_plan boolean w c.args.batch.now.inside.now c.args.condition.now _ c.args.batch.now.rows.now (Some c.in-Some.truths) made.view
    (c.in-Some.ensures ps w (made.sound ps sound).0 (made.sound ps sound).1 m)

pub returns-in_ok-right-in-Operator : goal.returns-in_ok-right-in-Operator
returns-in_ok-right-in-Operator t c = λ ps w sound m.
    let i = c.in-Dyadic in
    let o = c.in-Operator in
    let l = c.deref-in-Operator.result.now in
    let r = c.deref-in-Operator-2.result.now in
    let inside = c.args.batch.now.inside.now in
    let rows = c.args.batch.now.rows.now in
    let made = dyadic_made c.args.condition.now i.left i.right l r i.op (dyadics.Operator o.op) i.is o.is c.deref-in-Operator.ensures c.deref-in-Operator-2.ensures in
    let f = value_inside w inside l in
    let g = value_inside w inside r in
    of_plan boolean w inside c.args.condition.now _ rows c.truths_of_both.result made.view
    (c.truths_of_both.ensures f g rows
    (subst (AreInRows boolean f rows) (sym c.deref-in-Operator-3.ensures.value) (c.in_ok-left-in-Operator.ensures ps w (made.sound ps sound).0 m))
    (subst (AreInRows boolean g rows) (sym c.deref-in-Operator-4.ensures.value) (c.in_ok-right-in-Operator.ensures ps w (made.sound ps sound).1 m)))

pub returns-in_ok-truths-in-Not : goal.returns-in_ok-truths-in-Not
returns-in_ok-truths-in-Not t c = λ ps w sound m.
    let i = c.in-Monadic in
    let op = c.in-Prefix.is ∙ ap monadics.Prefix c.in-Not.is in
    let operand = c.deref-in-Not.result.now in
    let rows = c.args.batch.now.rows.now in
    let inner : IsSound ps i.operand.value = subst (IsSound ps) i.is sound in
    let f = value_inside w c.args.batch.now.inside.now operand in
    of_plan boolean w c.args.batch.now.inside.now c.args.condition.now (plans.monadic (plans.prefix prefixes.Not) (step_view operand)) rows c.ok.result
    (ap step_view i.is ∙ (λ j. plans.monadic (monadic_view (op j)) (step_view (sym c.deref-in-Not.ensures j))))
    (quick_granted boolean (λ t. with_value (f t) (prefix_value prefixes.Not)) rows c.negations.result c.ok.result c.ok.ensures.value
    (IfOk-weaker c.negations.result _ _ (λ others is. negated f rows c.deref-in-Not-2.result.now others.items is
    (subst (AreInRows boolean f rows) (sym c.deref-in-Not-2.ensures.value) (c.in_ok-truths-in-Not.ensures ps w (subst (IsSound ps) (sym c.deref-in-Not.ensures) inner) m)))
    c.negations.ensures))

pub returns-in_ok-inside-in-Bound : goal.returns-in_ok-inside-in-Bound
returns-in_ok-inside-in-Bound t c = λ ps w sound m.
    let b = c.in-Bound in
    let xs = c.deref-in-Bound.result.now in
    let d = c.deref-in-Bound-2.result.now in
    let step = c.args.condition.now in
    let made = bound_made step b.items xs c.deref-in-Bound.ensures.value b.slot b.reach b.value d b.is c.deref-in-Bound-2.ensures in
    let there = c.in_ok-inside-in-Bound.ensures ps w (made.sound ps sound).0 (bound_apart step b.items xs c.deref-in-Bound.ensures.value b.slot b.reach b.value ps b.is sound) m in
    of_bound boolean w c.args.batch.now.inside.now c.in_ok-inside-in-Bound.field-0 step d b.slot (steps_view xs) c.args.batch.now.rows.now c.truths_in_all-in-Bound.result made.view there.1
    (c.truths_in_all-in-Bound.ensures ps w (made.sound ps sound).1 there.0)

pub returns-in-Once : goal.returns-in-Once
returns-in-Once t c = λ ps w sound m.
    let i = c.in-Once in
    let part = c.deref-in-Once.result.now in
    let both : IsPart ps i.place i.reach (step_view i.part.value) × IsSound ps i.part.value = subst (IsSound ps) i.is sound in
    of_plan boolean w c.args.batch.now.inside.now c.args.condition.now (step_view part) c.args.batch.now.rows.now c.truths_in_all-in-Once.result (ap step_view i.is ∙ ap step_view (sym c.deref-in-Once.ensures))
    (c.truths_in_all-in-Once.ensures ps w (subst (IsSound ps) (sym c.deref-in-Once.ensures) both.1) m)
