use Rattle.std.proofs.Common.{◌∙◌, sym}
use Rattle.std.proofs.lemmas.Result.{err_from_is_err_and}
use Rattle.td_check.proofs.BothAnswers.{both_refused}
use Rattle.td_eval.specs.model.OperatorValues.{operator_value}
use Rattle.td_value.specs.model.Values.{Val}
use Rattle.td_eval.proofs.operators.between.value_of_operator.Goals as goal

pub returns-in_err-first : goal.returns-in_err-first
returns-in_err-first c = λ o p h i.
    let e = err_from_is_err_and c.from_residual.result c.from_residual.ensures.1 in
    rw (e.1, e.2)
    (both_refused (λ (v : Val). v) (λ (v : Val). v) (λ (v : Val). v) (operator_value c.args.op) c.args.first c.args.second o p _
    (sym c.both.ensures ∙ c.in_err-first.was) h i)
