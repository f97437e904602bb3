use Rattle.std.proofs.Common.{◌∙◌, FitsSigned, ap, arith, map, rules, sym, get_or, pos}
use Rattle.std.proofs.lemmas.Int.{to_z-of_z}
use Rattle.std.proofs.lemmas.List.{get_or_default, take_all}
use mir.Syntax.{w64}
use Rattle.std.specs.List.{zip}
use Rattle.td_eval.proofs.code_lemmas.WalkedColumns.{beside_at, beside_past, beside_within}
use Rattle.td_eval.specs.model.OperatorValues.{operator_value}
use Rattle.td_plan.proofs.Granted.{pushed}
use Rattle.td_plan.proofs.QuickRows.{of_both, of_two, one_more}
use Rattle.td_value.specs.model.Values.{integer}
use Rattle.td_plan.proofs.running.quick_numbers.numbers_of_both.Goals as goal

pub loop-place-preserved : goal.loop-place-preserved
loop-place-preserved c =
    let x = get_or c.args.left.now c.loop-place.place (pos 0) in
    let y = get_or c.args.right.now c.loop-place.place (pos 0) in
    let fits_x : FitsSigned w64 x = search rules in
    let fits_y : FitsSigned w64 y = search rules in
    let fits : FitsSigned w64 c.in_ok-z.z = search rules in
    rw (pushed _ _ c.in_ok-ok.ensures.variant c.push.ensures.items, to_z-of_z w64 c.in_ok-z.z fits)
    (one_more integer (of_two integer (operator_value c.args.op)) (zip c.args.left.now c.args.right.now) c.loop-place.place (x, y) c.loop-place.numbers.items c.in_ok-z.z
    (beside_within c.args.left.now c.args.right.now c.loop-place.place (omega (arith, c.if-left-right.false)) c.loop-place-test.true)
    (beside_at c.args.left.now c.args.right.now c.loop-place.place x y (omega (arith, c.if-left-right.false)) c.loop-place-test.true
    (get_or_default c.args.left.now c.loop-place.place (pos 0) x (omega (arith, c.if-left-right.false, c.loop-place-test.true))) (get_or_default c.args.right.now c.loop-place.place (pos 0) y c.loop-place-test.true))
    c.loop-place.invariant
    (rw (to_z-of_z w64 x fits_x, to_z-of_z w64 y fits_y) at c.in_ok-z.ensures))

pub returns : goal.returns
returns c = λ f g ts p q.
    of_both integer (operator_value c.args.op) f g ts c.args.left.now c.args.right.now p q
    ∙ ap (map (of_two integer (operator_value c.args.op))) (sym (take_all c.loop-place.place (zip c.args.left.now c.args.right.now) (beside_past c.args.left.now c.args.right.now c.loop-place.place (omega (arith, c.if-left-right.false)) c.loop-place-test.false)))
    ∙ c.loop-place.invariant
