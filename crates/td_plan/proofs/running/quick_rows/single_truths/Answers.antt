use Rattle.std.proofs.Common.{◌∙◌, Some, ap, map, sym}
use Rattle.std.proofs.lemmas.List.{take_all}
use Rattle.td_plan.proofs.Granted.{pushed}
use Rattle.td_plan.proofs.QuickRows.{one_more, quick_inside}
use Rattle.td_plan.specs.code.Hands.{slots_of}
use Rattle.td_plan.specs.code.QuickInside.{value_inside}
use Rattle.td_value.specs.model.Values.{boolean}
use Rattle.td_plan.proofs.running.quick_rows.single_truths.Goals as goal

pub loop-row-preserved : goal.loop-row-preserved
loop-row-preserved c = λ ps w sound m.
    let f = value_inside w c.args.batch.now.inside.now c.args.condition.now in
    rw (pushed _ _ c.in_ok-ok.ensures.variant c.push.ensures.items)
    (one_more boolean f c.args.batch.now.rows.now c.loop-row.row-index c.row-item.result c.loop-row.truths.items c.in_ok-truth.truth c.loop-row-test.true c.row-item.is (c.loop-row.invariant ps w sound m)
    (quick_inside boolean (Some c.in_ok-truth.truth) w c.args.batch.now.inside.now c.row-item.result (slots_of c.hand_inside-hand.result) c.args.condition.now c.args.batch.now.memo.now ps
    c.hand_inside-hand.ensures m (λ n. c.in_ok-truth.ensures ps w sound n)))

pub returns : goal.returns
returns c = λ ps w sound m.
    ap (map (value_inside w c.args.batch.now.inside.now c.args.condition.now)) (sym (take_all c.loop-row.row-index c.args.batch.now.rows.now c.loop-row-test.false)) ∙ c.loop-row.invariant ps w sound m
