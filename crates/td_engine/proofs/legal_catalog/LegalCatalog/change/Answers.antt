use Rattle.std.proofs.Common.{Err, ◌≡◌, ◌∙◌, ◌+◌, ap, length, subst, sym, take}
use Rattle.td_catalog.specs.model.Database.{Database}
use Rattle.td_catalog.specs.code.KeptDatabases.{CatalogView, stages}
use Rattle.td_engine.proofs.law_lemmas.Answered.{admitted_effect, changed_legal, denied_does}
use Rattle.td_engine.proofs.code_lemmas.StageLaws.{back_again, stays}
use Rattle.td_engine.proofs.code_lemmas.Turning.{ok_map}
use Rattle.td_engine.specs.code.Carried.{Changes, IsDenied}
use Rattle.td_engine.specs.model.Machine.{Accepted, carried_out, effect, ok_text, step_of}
use Rattle.td_engine.specs.model.Legality.{IsLegal}
use Rattle.td_engine.specs.code.Steps.{Does}
use Rattle.td_tree.specs.code.TreeViews.{statement_view}
use Rattle.td_engine.proofs.legal_catalog.LegalCatalog.change.Goals as goal

pub invariant_of-self : goal.invariant_of-self
invariant_of-self g c =
    let db = c.args.self.now.database in
    let s = statement_view c.args.statement in
    let same : c.self.inside.catalog.database ≡ db = ap (λ (v : CatalogView). v.database) c.self.view_is in
    let accepted : carried_out db s ≡ Accepted c.change.new.catalog.database ok_text = ap (λ d. carried_out d s) (sym same) ∙ c.in-Ok.ensures.change c.requires.change in
    (changed_legal db c.change.new.catalog.database s (subst IsLegal same c.self.invariant.0) c.requires.admitted accepted, c.in-Ok.ensures.after)

pub returns-in-Ok-ok-clause-legal : goal.returns-in-Ok-ok-clause-legal
returns-in-Ok-ok-clause-legal g c =
    let db = c.args.self.now.database in
    let s = statement_view c.args.statement in
    let same : c.self.inside.catalog.database ≡ db = ap (λ (v : CatalogView). v.database) c.self.view_is in
    let accepted : carried_out db s ≡ Accepted c.change.new.catalog.database ok_text = ap (λ d. carried_out d s) (sym same) ∙ c.in-Ok.ensures.change c.requires.change in
    changed_legal db c.change.new.catalog.database s (subst IsLegal same c.self.invariant.0) c.requires.admitted accepted

pub returns-in-Err-clause-done : goal.returns-in-Err-clause-done
returns-in-Err-clause-done g c =
    let v = c.self.inside.catalog in
    let db = c.args.self.now.database in
    let s = statement_view c.args.statement in
    let same : v.database ≡ db = ap (λ (v : CatalogView). v.database) c.self.view_is in
    let back : stages c.revert-in-Err.new.self ≡ take (length v.kept + 1) (stages c.change.new.catalog) =
    c.revert-in-Err.ensures ∙ ap (λ n. take (n + 1) (stages c.change.new.catalog)) c.kept-place.ensures in
    let there : c.revert-in-Err.new.self ≡ v = back_again v c.change.new.catalog c.revert-in-Err.new.self c.change.ensures.on back in
    let new-is : c.revert-in-Err.new.self.database ≡ db = ap (λ (v : CatalogView). v.database) there ∙ same in
    let refused : Changes c.change.new.catalog.database (Err c.in-Err.failure) (effect db s) =
    subst (Changes c.change.new.catalog.database (Err c.in-Err.failure)) (ap (λ d. carried_out d s) same ∙ sym (admitted_effect db s c.requires.admitted))
    (c.in-Err.ensures.change c.requires.change) in
    ok_map (λ a. (d : Database) → IsDenied d c.in-Err.failure a) (λ a. Does (step_of db (effect db s)) a c.revert-in-Err.new.self.database)
    (λ a d. subst (Does (step_of db (effect db s)) a) (sym new-is) (denied_does c.in-Err.failure a db c.change.new.catalog.database (effect db s) refused (d db)))
    c.answer_of_failure.result c.answer_of_failure.ensures

pub returns-in-Err-clause-on : goal.returns-in-Err-clause-on
returns-in-Err-clause-on g c =
    let v = c.self.inside.catalog in
    let back : stages c.revert-in-Err.new.self ≡ take (length v.kept + 1) (stages c.change.new.catalog) =
    c.revert-in-Err.ensures ∙ ap (λ n. take (n + 1) (stages c.change.new.catalog)) c.kept-place.ensures in
    stays c.args.self.now c.revert-in-Err.new.self (back_again v c.change.new.catalog c.revert-in-Err.new.self c.change.ensures.on back ∙ c.self.view_is)
