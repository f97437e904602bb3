-- A condition that cannot fail in the tuples of a relation has a truth value in each of them.
use Rattle.std.proofs.Common.{◌≡◌, ◌∙◌, ◌∷◌, true, ap, subst, sym}
use Rattle.td_check.specs.laws.CannotFail.{cannot_fail}
use Rattle.td_check.specs.model.Scopes.{entered_with}
use Rattle.td_check.specs.model.StaticTypes.{type_of}
use Rattle.td_eval.proofs.code_lemmas.TypedRows.{rows_typed}
use Rattle.td_eval.proofs.code_lemmas.TypedValues.{truth_of}
use Rattle.td_eval.proofs.law_lemmas.UnfailingTrees.{unfailing_expressions_have_values}
use Rattle.td_eval.specs.model.Worlds.{with_tuples}
use Rattle.td_plan.specs.laws.TotalConditions.{UnfailingConditionsAreTotal}
use Rattle.td_tree.specs.model.Outcomes.{Valued}
use Rattle.td_types.specs.model.Types as types

pub unfailing_conditions_are_total : UnfailingConditionsAreTotal
unfailing_conditions_are_total w scope s r condition k h p written m is never u c =
    let sc = with_tuples scope s in
    let at = rows_typed scope.types r p u c in
    let v = unfailing_expressions_have_values w scope (u ∷ s) condition types.boolean k (at.0, h) written m
    (subst (λ g. type_of (entered_with g sc) condition ≡ Valued types.boolean) (sym at.1) is)
    (subst (λ g. cannot_fail (entered_with g sc) condition ≡ true) (sym at.1) never) in
    let b = truth_of scope.types v.0 v.2.1 in
    (b.0, v.1 ∙ ap Valued b.1)
