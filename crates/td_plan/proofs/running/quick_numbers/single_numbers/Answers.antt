use Rattle.std.proofs.Common.{◌∙◌, FitsSigned, Some, ap, map, rules, sym}
use Rattle.std.proofs.lemmas.Int.{to_z-of_z}
use Rattle.std.proofs.lemmas.List.{take_all}
use mir.Syntax.{w64}
use Rattle.td_plan.proofs.Granted.{pushed}
use Rattle.td_plan.proofs.QuickRows.{one_more, quick_inside}
use Rattle.td_plan.specs.code.Hands.{slots_of}
use Rattle.td_plan.specs.code.QuickInside.{value_inside}
use Rattle.td_value.specs.model.Values.{integer}
use Rattle.td_plan.proofs.running.quick_numbers.single_numbers.Goals as goal

pub loop-row-preserved : goal.loop-row-preserved
loop-row-preserved c = λ ps w sound m.
    let f = value_inside w c.args.batch.now.inside.now c.args.step.now in
    let fits : FitsSigned w64 c.in_ok-z.z = search rules in
    rw (pushed _ _ c.in_ok-ok.ensures.variant c.push.ensures.items, to_z-of_z w64 c.in_ok-z.z fits)
    (one_more integer f c.args.batch.now.rows.now c.loop-row.row-index c.row-item.result c.loop-row.numbers.items c.in_ok-z.z c.loop-row-test.true c.row-item.is (c.loop-row.invariant ps w sound m)
    (quick_inside integer (Some c.in_ok-z.z) w c.args.batch.now.inside.now c.row-item.result (slots_of c.hand_inside-hand.result) c.args.step.now c.args.batch.now.memo.now ps
    c.hand_inside-hand.ensures m (λ n. c.in_ok-z.ensures ps w sound n)))

pub returns : goal.returns
returns c = λ ps w sound m.
    ap (map (value_inside w c.args.batch.now.inside.now c.args.step.now)) (sym (take_all c.loop-row.row-index c.args.batch.now.rows.now c.loop-row-test.false)) ∙ c.loop-row.invariant ps w sound m
