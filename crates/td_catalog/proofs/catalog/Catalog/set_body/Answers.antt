use Rattle.std.proofs.Common.{◌∙◌, IfSome, ap, refl, subst, sym, true≢false}
use Rattle.std.specs.Prelude.{is_some}
use Rattle.td_catalog.specs.code.CatalogViews.{IsBodyOf, base_heading, base_view, known_rows, rows_of}
use Rattle.td_catalog.specs.model.Database.{BaseRelvar, Database, base_named, with_body}
use Rattle.td_catalog.specs.code.KeptDatabases.{CatalogView, settled_view}
use Rattle.td_catalog.specs.model.TypedDatabases.{AreTyped}
use Rattle.td_catalog.proofs.Changes.{catalog_with_body, view_with_body}
use Rattle.td_catalog.proofs.LedSteps.{set_same}
use Rattle.td_catalog.proofs.Named.{with_known_bases}
use Rattle.td_catalog.proofs.Places.{place_is}
use Rattle.td_catalog.proofs.Rows.{unnamed}
use Rattle.td_catalog.proofs.Steps.{kept_none, no_step, view_none}
use Rattle.td_catalog.proofs.catalog.Catalog.set_body.Goals as goal

pub invariant_of-self : goal.invariant_of-self
invariant_of-self g c =
    let relation = g.B.Body.relation in
    let keys = g.B.Body.keys in
    let kept = g.B.Body.kept in
    let rows = rows_of c.self.inside.tables in
    let steps = c.self.inside.log.steps.items in
    let now = ap (λ (v : CatalogView). v.database) c.self.view_is in
    let none = no_step relation keys kept rows steps (ap (λ (v : CatalogView). v.kept) c.self.view_is ∙ c.requires.none_kept) in
    kept_none relation keys kept _ steps none
    (catalog_with_body relation keys rows c.args.name.now c.args.body c.in-Some.place _ (place_is relation keys c.args.name.now rows.bases c.in-Some.place (sym c.get_index_of.ensures.index ∙ c.in-Some.is)) c.pair_mut-entry.ensures.value c.self.invariant.history.catalog
    (subst (λ (db : Database). IfSome (base_named c.args.name.now db) (λ r. IsBodyOf r.relation.heading r.keys (relation c.args.body) (keys c.args.body))) (sym now) c.requires.body)
    c.len.ensures.valid (subst (λ (db : Database). AreTyped db.types (relation c.args.body)) (sym now) c.requires.typed))
    (c.self.invariant.named ∙ ap (λ bs. with_known_bases bs (known_rows rows))
    (sym (set_same base_heading rows.bases c.in-Some.place _ (record { heading = c.pair_mut-entry.result.1.now.heading; keys = c.pair_mut-entry.result.1.now.keys; body = c.args.body }) c.pair_mut-entry.ensures.value refl)))

pub returns-in-Some : goal.returns-in-Some
returns-in-Some g c =
    let relation = g.B.Body.relation in
    let keys = g.B.Body.keys in
    let kept = g.B.Body.kept in
    let rows = rows_of c.self.inside.tables in
    let steps = c.self.inside.log.steps.items in
    let now = ap (λ (v : CatalogView). v.database) c.self.view_is in
    let none = no_step relation keys kept rows steps (ap (λ (v : CatalogView). v.kept) c.self.view_is ∙ c.requires.none_kept) in
    view_none relation keys kept _ steps none
    ∙ ap settled_view (view_with_body relation keys rows c.args.name.now c.args.body c.in-Some.place _ (place_is relation keys c.args.name.now rows.bases c.in-Some.place (sym c.get_index_of.ensures.index ∙ c.in-Some.is)) c.pair_mut-entry.ensures.value ∙ ap (with_body c.args.name.now (relation c.args.body)) now)

pub returns-in_default : goal.returns-in_default
returns-in_default g c =
    let now = ap (λ (v : CatalogView). v.database) c.self.view_is in
    let none = unnamed (base_view g.B.Body.relation) (λ (r : BaseRelvar). r.name) (λ row. refl) c.args.name.now c.self.inside.tables.bases.entries
    (sym c.get_index_of.ensures.found ∙ ap is_some c.in_default.is) in
    absurd (true≢false (sym c.requires.known ∙ ap (λ db. is_some (base_named c.args.name.now db)) (sym now) ∙ ap is_some none))
