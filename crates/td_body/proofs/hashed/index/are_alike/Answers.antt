use Rattle.std.proofs.Common.{◌<◌, ◌∙◌, arith, length, sym}
use Rattle.td_body.proofs.Likes.{marks_on, same_test, values_on}
use Rattle.td_body.proofs.hashed.index.are_alike.Goals as goal

pub loop-number-preserved : goal.loop-number-preserved
loop-number-preserved c =
    let rows = c.args.rows.now in
    let old = c.args.old.now in
    let n = c.loop-number.number in
    let low : n < length rows.rows = omega (arith, c.loop-number-test.true, c.count-count.ensures.count) in
    let low' : n < length old.rows = omega (arith, c.loop-number-test.true, c.if-count.false, c.count.ensures.count) in
    record {
      values = values_on c.args.places.now rows.rows old.rows n c.row_at-row.result.now c.row_at.result.now low low' c.row_at-row.ensures c.row_at.ensures (sym c.agree_at.ensures ∙ c.if-not-agree_at.false) c.loop-number.invariant.values;
      gone = marks_on rows.gone old.gone n c.is_live.result c.is_live-in-loop-number.result (omega (arith, low, c.count-count.ensures.marks)) (omega (arith, low', c.count.ensures.marks)) c.is_live.ensures c.is_live-in-loop-number.ensures (same_test c.is_live.result c.is_live-in-loop-number.result c.if-is_live.false) c.loop-number.invariant.gone;
    }
