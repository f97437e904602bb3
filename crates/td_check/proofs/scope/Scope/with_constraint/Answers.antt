use Rattle.std.proofs.Common.{◌≡◌, ◌∙◌, ◌∷◌, ◌++◌, [], ap, sym, true}
use Rattle.std.proofs.lemmas.List.{append_assoc}
use Rattle.std.specs.Prelude.{not, reverse}
use Rattle.td_check.specs.code.ScopeCode.{lent_constraints, lent_relvars, relvars_view}
use Rattle.td_check.specs.model.Scopes.{Scope, knows_constraint, with_known_constraint}
use Rattle.td_check.proofs.LentScopes.{unnamed_behind}
use Rattle.td_check.proofs.Scopes.{name_added}
use Rattle.td_check.proofs.scope.Scope.with_constraint.Goals as goal
use Rattle.td_types.specs.model.Headings.{has_name}

pub returns : goal.returns
returns c =
    let inside = c.scope.inside in
    let free : not (has_name c.args.name (lent_constraints inside.lent ++ inside.constraints.keys)) ≡ true =
    ap (λ (s : Scope). not (knows_constraint c.args.name s)) c.scope.view_is ∙ c.requires.new in
    let added = name_added inside.constraints.keys c.args.name (unnamed_behind c.args.name (lent_constraints inside.lent) inside.constraints.keys free) in
    ap (λ ns. record { types = inside.types.now; relvars = lent_relvars inside.lent ++ relvars_view inside.relvars.entries; constraints = ns; entered = reverse inside.entered.items })
    (ap (λ ns. lent_constraints inside.lent ++ ns) (c.in_ok-insert.ensures.keys ∙ added)
    ∙ sym (append_assoc (lent_constraints inside.lent) inside.constraints.keys (c.args.name ∷ [])))
    ∙ ap (with_known_constraint c.args.name) c.scope.view_is
