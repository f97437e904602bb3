use Rattle.std.proofs.Common.{◌∙◌, ap, refl, subst, sym, IfSome, option_map}
use Rattle.td_catalog.specs.code.KeptDatabases.{CatalogView}
use Rattle.td_catalog.specs.code.CatalogViews.{IsEntry, base_view}
use Rattle.td_catalog.specs.model.Database.{BaseRelvar, base_named}
use Rattle.td_catalog.proofs.Changes.{as_body}
use Rattle.td_catalog.proofs.Rows.{found, if_references, map_references}
use Rattle.td_catalog.proofs.catalog.Catalog.get_base.Goals as goal

pub returns-clause-found : goal.returns-clause-found
returns-clause-found g c =
    let relation = g.B.Body.relation in
    map_references (λ e. base_view relation (c.args.name.now, e)) c.get.result
    ∙ ap (option_map (λ e. base_view relation (c.args.name.now, e))) c.get.ensures.value
    ∙ found (base_view relation) (λ (r : BaseRelvar). r.name) (λ row. refl) c.args.name.now c.self.inside.tables.bases.entries
    ∙ ap (base_named c.args.name.now) (ap (λ (v : CatalogView). v.database) c.self.view_is)

pub returns-clause-entry : goal.returns-clause-entry
returns-clause-entry g c =
    let P = IsEntry g.B.Body.relation g.B.Body.keys in
    if_references P c.get.result
    (subst (λ o. IfSome o P) (sym c.get.ensures.value) (as_body g.B.Body.relation g.B.Body.keys c.args.name.now c.self.inside.tables.bases.entries c.self.invariant.history.catalog.entries))
