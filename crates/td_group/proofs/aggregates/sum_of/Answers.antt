use Rattle.std.proofs.Common.{rules, ◌∙◌, sym, arith, pos, ◌+◌, ◌*◌, ◌^◌, FitsSigned, ◌+ℤ◌, ◌≤ℤ◌}
use Rattle.std.proofs.lemmas.Int.{to_z-of_z}
use mir.Syntax.{w128, w64}
use Rattle.td_group.proofs.Sums.{sum_taken}
use Rattle.td_group.proofs.aggregates.sum_of.Goals as goal

pub loop-value-preserved : goal.loop-value-preserved
loop-value-preserved c =
    let fits : FitsSigned w128 c.with_number-total.result = search rules in
    let back = to_z-of_z w128 c.with_number-total.result fits in
    let fits_one : FitsSigned w64 c.summand.result = search rules in
    let number = to_z-of_z w64 c.summand.result fits_one ∙ c.summand.ensures in
    let values = c.args.values.now in
    let one = sum_taken values c.loop-value.value-index c.value-item.result (omega (arith, c.loop-value-test.true)) c.value-item.is in
    let high : c.with_number-total.result ≤ℤ pos ((c.loop-value.value-index + 1) * 2 ^ 63) = search rules in
    let low : pos 0 ≤ℤ (c.with_number-total.result +ℤ pos ((c.loop-value.value-index + 1) * 2 ^ 63)) = search rules in
    (back ∙ c.with_number-total.ensures.sum ∙ (λ i. c.loop-value.invariant.0 i +ℤ number i) ∙ sym one, rw back high, rw back low)
