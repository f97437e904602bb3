use Rattle.std.proofs.Common.{◌∙◌, ap, option_map, sym}
use Rattle.td_check.specs.code.ScopeCode.{known_view, lent_relvars, relvars_view, seen_view}
use Rattle.td_check.specs.model.Scopes.{Scope, kind_and_heading, relvar_in}
use Rattle.td_check.proofs.LentScopes.{in_either, or_else}
use Rattle.td_check.proofs.Scopes.{kept}
use Rattle.td_check.proofs.scope.Scope.relvar.Goals as goal

pub returns-in-Some : goal.returns-in-Some
returns-in-Some c =
    let inside = c.self.inside in
    ap (λ o. or_else o (option_map kind_and_heading (relvar_in c.args.name.now (relvars_view inside.relvars.entries)))) c.in-Some.ensures
    ∙ sym (in_either c.args.name.now (lent_relvars inside.lent) (relvars_view inside.relvars.entries))
    ∙ ap (λ (s : Scope). option_map kind_and_heading (relvar_in c.args.name.now s.relvars)) c.self.view_is

pub returns : goal.returns
returns c =
    let inside = c.self.inside in
    (λ i. or_else (c.in_default.ensures i) ((ap (option_map known_view) c.in_ok-known.ensures.value ∙ kept c.args.name.now inside.relvars.entries) i))
    ∙ sym (in_either c.args.name.now (lent_relvars inside.lent) (relvars_view inside.relvars.entries))
    ∙ ap (λ (s : Scope). option_map kind_and_heading (relvar_in c.args.name.now s.relvars)) c.self.view_is

pub returns-in_err-known : goal.returns-in_err-known
returns-in_err-known c =
    let inside = c.self.inside in
    ap (option_map seen_view) c.from_residual.ensures
    ∙ (λ i. or_else (c.in_default.ensures i) ((ap (option_map known_view) c.in_err-known.ensures.value ∙ kept c.args.name.now inside.relvars.entries) i))
    ∙ sym (in_either c.args.name.now (lent_relvars inside.lent) (relvars_view inside.relvars.entries))
    ∙ ap (λ (s : Scope). option_map kind_and_heading (relvar_in c.args.name.now s.relvars)) c.self.view_is
