use Rattle.std.proofs.Common.{◌∙◌, Err, ap, sym}
use Rattle.std.proofs.lemmas.Result.{err_from_is_err_and}
use Rattle.std.specs.Prelude.{⊤}
use Rattle.td_check.proofs.StatementAnswers.{parts_answer}
use Rattle.td_tree.specs.model.Outcomes.{Valued}
use Rattle.td_check.proofs.statement.parts.both_hold.Goals as goal

pub returns-in_err-both : goal.returns-in_err-both
returns-in_err-both c o p h i =
    let e = err_from_is_err_and c.from_residual.result c.from_residual.ensures.1 in
    rw e.1
    (parts_answer (λ (u : ⊤). u) (λ (u : ⊤). u) (λ (u : ⊤). u) (λ _ _. Valued tt) c.args.first c.args.second o p e.0
    (sym c.in_err-both.ensures ∙ ap Err (sym e.2)) h i)
