use Rattle.std.proofs.Common.{◌∙◌, ℕ, List, Err, ap, option_map, subst, sym}
use Rattle.std.proofs.lemmas.Result.{err_from_is_err_and}
use Rattle.std.specs.Global.{Vec}
use Rattle.std.specs.Prelude.{Option, ⊤}
use Rattle.td_check.specs.model.StatementTypes.{condition_fits}
use Rattle.td_check.proofs.StatementAnswers.{given_is, parts_answer, parts_have, update_asked}
use Rattle.td_tree.specs.model.Outcomes.{Answers}
use Rattle.td_types.specs.model.Types.{Type'}
use Rattle.td_types.specs.code.Views.{pairs_view, type_view}
use Rattle.td_types.specs.declared.ty.Ty.{Ty}
use Rattle.td_check.proofs.statement.assignments.update_fits.Goals as goal

pub returns-in_err-condition : goal.returns-in_err-condition
returns-in_err-condition c =
    let e = err_from_is_err_and c.from_residual.result c.from_residual.ensures.1 in
    rw e.1
    (parts_answer (option_map type_view) (λ (ts : Vec (List ℕ × Ty)). pairs_view ts.items) (λ (u : ⊤). u) (update_asked c.args.heading.now)
    c.type_if_given-condition.result c.check_named_at.result _ _ e.0 (sym c.in_err-condition.ensures ∙ ap Err (sym e.2)) c.type_if_given-condition.ensures c.check_named_at.ensures)

pub returns : goal.returns
returns c =
    rw (parts_have (option_map type_view) (λ (ts : Vec (List ℕ × Ty)). pairs_view ts.items) (update_asked c.args.heading.now)
    c.type_if_given-condition.result c.check_named_at.result _ _ (c.in_ok-condition.condition, c.in_ok-condition.values) (sym c.in_ok-condition.ensures)
    c.type_if_given-condition.ensures c.check_named_at.ensures)
    (c.both_hold.ensures _ _
    (subst (λ (t : Option Type'). Answers (λ (u : ⊤). u) c.condition_fits-condition.result (condition_fits t))
    (given_is type_view c.as_ref.result c.in_ok-condition.condition c.as_ref.ensures.value) c.condition_fits-condition.ensures)
    c.settings_fit.ensures)
