use Rattle.std.proofs.Common.{◌≡◌, ◌∙◌, ◌∷◌, ◌++◌, [], ap, sym, true}
use Rattle.std.proofs.lemmas.List.{append_assoc}
use Rattle.std.specs.Prelude.{is_some, not, reverse}
use Rattle.td_check.specs.code.ScopeCode.{known_relvar_view, lent_constraints, lent_relvars, relvars_view}
use Rattle.td_check.specs.model.Scopes.{Scope, relvar_in, with_known_relvar}
use Rattle.td_check.proofs.LentScopes.{none_behind}
use Rattle.td_check.proofs.Scopes.{relvar_added}
use Rattle.td_check.proofs.scope.Scope.with_relvar.Goals as goal

pub returns : goal.returns
returns c =
    let inside = c.scope.inside in
    let free : not (is_some (relvar_in c.args.name (lent_relvars inside.lent ++ relvars_view inside.relvars.entries))) ≡ true =
    ap (λ (s : Scope). not (is_some (relvar_in c.args.name s.relvars))) c.scope.view_is ∙ c.requires.new in
    let added = relvar_added inside.relvars c.args.name _ (none_behind c.args.name (lent_relvars inside.lent) (relvars_view inside.relvars.entries) free) in
    ap (λ rs. record { types = inside.types.now; relvars = rs; constraints = lent_constraints inside.lent ++ inside.constraints.keys; entered = reverse inside.entered.items })
    (ap (λ rs. lent_relvars inside.lent ++ rs) (ap relvars_view c.in_ok-insert.ensures.entries ∙ added)
    ∙ sym (append_assoc (lent_relvars inside.lent) (relvars_view inside.relvars.entries) (known_relvar_view (c.args.name, _) ∷ [])))
    ∙ ap (with_known_relvar c.args.name c.args.kind c.args.heading) c.scope.view_is
