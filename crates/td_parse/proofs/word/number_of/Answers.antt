use Rattle.std.proofs.Common.{◌+◌, ◌*◌, ◌^◌, ◌≤◌, refl, ◌∙◌, subst, arith}
use Rattle.td_parse.proofs.Decimals.{large, none_spelled, not_below}
use Rattle.td_parse.proofs.word.number_of.Goals as goal

pub returns-in_err-checked_mul : goal.returns-in_err-checked_mul
returns-in_err-checked_mul c =
    let out = not_below (c.loop-digit.value * 10) (2 ^ 64) c.in_err-checked_mul.ensures in
    c.from_residual.ensures ∙ none_spelled _ (subst (λ n. 2 ^ 64 ≤ n) c.loop-digit.invariant.value (large c.args.text.now c.loop-digit.digit-index c.loop-digit.value _ c.loop-digit-test.true refl (omega (arith, out))))

pub returns-in_err-value : goal.returns-in_err-value
returns-in_err-value c =
    let out = not_below (c.in_ok-checked_mul.field-0 + c.from.result) (2 ^ 64) c.in_err-value.ensures in
    c.from_residual-in_err-value.ensures ∙ none_spelled _ (subst (λ n. 2 ^ 64 ≤ n) c.loop-digit.invariant.value (large c.args.text.now c.loop-digit.digit-index c.loop-digit.value _ c.loop-digit-test.true refl (omega (arith, out, c.in_ok-checked_mul.ensures, c.from.ensures))))
