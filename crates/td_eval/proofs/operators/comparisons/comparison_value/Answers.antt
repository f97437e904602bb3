use Rattle.std.proofs.Common.{Bool}
use Rattle.std.specs.Prelude.{not}
use Rattle.std.proofs.lemmas.Result.{err_from_is_err_and}
use Rattle.td_eval.proofs.code_lemmas.OpComparisons.{equality_then}
use Rattle.td_eval.proofs.code_lemmas.OpValues.{refused_then}
use Rattle.td_eval.proofs.operators.comparisons.comparison_value.Goals as goal

pub returns-in_err-are_one-in-Equal : goal.returns-in_err-are_one-in-Equal
returns-in_err-are_one-in-Equal c =
    let e = err_from_is_err_and c.from_residual.result c.from_residual.ensures.1 in
    rw (e.1, e.2, c.in-Equal.is, ← equality_then c.args.first.now c.args.second.now (λ b. b)) (refused_then (λ (b : Bool). b) (λ v. v) _ _ _ c.in_err-are_one-in-Equal.ensures)

pub returns-in_err-are_one-in-NotEqual : goal.returns-in_err-are_one-in-NotEqual
returns-in_err-are_one-in-NotEqual c =
    let e = err_from_is_err_and c.from_residual-in_err-are_one-in-NotEqual.result c.from_residual-in_err-are_one-in-NotEqual.ensures.1 in
    rw (e.1, e.2, c.in-NotEqual.is, ← equality_then c.args.first.now c.args.second.now not) (refused_then (λ (b : Bool). b) (λ v. v) _ _ _ c.in_err-are_one-in-NotEqual.ensures)
