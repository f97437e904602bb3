use Rattle.std.proofs.Common.{Bool}
use Rattle.td_value.specs.model.Values.{Val}
use Rattle.td_eval.specs.model.OperatorValues.{at_most}
use Rattle.std.proofs.lemmas.Result.{err_from_is_err_and}
use Rattle.td_eval.proofs.code_lemmas.OpValues.{refused_then}
use Rattle.td_eval.proofs.operators.comparisons.less_or_equal.Goals as goal

pub returns-in_err-at_most : goal.returns-in_err-at_most
returns-in_err-at_most c =
    let e = err_from_is_err_and c.from_residual.result c.from_residual.ensures.1 in
    rw (e.1, e.2) (refused_then {X = Bool} {Y = Val} (λ b. b) (λ v. v) c.in_err-at_most.field-0.0 (at_most c.args.first.now c.args.second.now) _ c.in_err-at_most.ensures)
