use Rattle.std.proofs.Common.{◌∙◌, ap, arith, map, sym, get_or, false}
use Rattle.std.proofs.lemmas.List.{get_or_default, take_all}
use Rattle.std.specs.List.{zip}
use Rattle.td_eval.proofs.code_lemmas.WalkedColumns.{beside_at, beside_past, beside_within}
use Rattle.td_eval.specs.model.OperatorValues.{operator_value}
use Rattle.td_plan.proofs.Granted.{pushed}
use Rattle.td_plan.proofs.QuickRows.{of_both, of_two, one_more}
use Rattle.td_value.specs.model.Values.{boolean}
use Rattle.td_plan.proofs.running.quick_rows.truths_of_both.Goals as goal

pub loop-place-preserved : goal.loop-place-preserved
loop-place-preserved c =
    let x = get_or c.args.left.now c.loop-place.place false in
    let y = get_or c.args.right.now c.loop-place.place false in
    rw (pushed _ _ c.in_ok-ok.ensures.variant c.push.ensures.items)
    (one_more boolean (of_two boolean (operator_value c.args.op)) (zip c.args.left.now c.args.right.now) c.loop-place.place (x, y) c.loop-place.truths.items c.in_ok-truth.truth
    (beside_within c.args.left.now c.args.right.now c.loop-place.place (omega (arith, c.if-left-right.false)) c.loop-place-test.true)
    (beside_at c.args.left.now c.args.right.now c.loop-place.place x y (omega (arith, c.if-left-right.false)) c.loop-place-test.true
    (get_or_default c.args.left.now c.loop-place.place false x (omega (arith, c.if-left-right.false, c.loop-place-test.true))) (get_or_default c.args.right.now c.loop-place.place false y c.loop-place-test.true))
    c.loop-place.invariant
    c.in_ok-truth.ensures)

pub returns : goal.returns
returns c = λ f g ts p q.
    of_both boolean (operator_value c.args.op) f g ts c.args.left.now c.args.right.now p q
    ∙ ap (map (of_two boolean (operator_value c.args.op))) (sym (take_all c.loop-place.place (zip c.args.left.now c.args.right.now) (beside_past c.args.left.now c.args.right.now c.loop-place.place (omega (arith, c.if-left-right.false)) c.loop-place-test.false)))
    ∙ c.loop-place.invariant
