use Rattle.std.proofs.Common.{◌∙◌, ap, map, refl, sym}
use Rattle.td_catalog.specs.code.CatalogViews.{base_view, rows_of, virtual_view}
use Rattle.td_catalog.specs.model.Database.{BaseRelvar, Database, VirtualRelvar, knows_relvar}
use Rattle.td_catalog.specs.code.KeptDatabases.{CatalogView}
use Rattle.td_catalog.proofs.Changes.{unknown_base}
use Rattle.td_catalog.proofs.Rows.{known}
use Rattle.td_catalog.proofs.catalog.Catalog.drop_var.Goals as goal
use Rattle.td_types.specs.model.Headings.{has_name}

pub drop_base-requires-clause-known : goal.drop_base-requires-clause-known
drop_base-requires-clause-known g c =
    let rows = rows_of c.self.inside.tables in
    let now = ap (λ (v : CatalogView). v.database) c.self.view_is in
    ap (λ (db : Database). has_name c.args.name.now (map (λ (r : BaseRelvar). r.name) db.bases)) (sym now)
    ∙ sym (known (base_view g.B.Body.relation) (λ (r : BaseRelvar). r.name) (λ row. refl) c.args.name.now rows.bases) ∙ sym c.contains_key.ensures ∙ c.if-contains_key.true

pub drop_virtual-requires-clause-known : goal.drop_virtual-requires-clause-known
drop_virtual-requires-clause-known g c =
    let rows = rows_of c.self.inside.tables in
    let now = ap (λ (v : CatalogView). v.database) c.self.view_is in
    ap (λ (db : Database). has_name c.args.name.now (map (λ (v : VirtualRelvar). v.name) db.virtuals)) (sym now)
    ∙ sym (known virtual_view (λ (v : VirtualRelvar). v.name) (λ row. refl) c.args.name.now rows.virtuals)
    ∙ sym (unknown_base g.B.Body.relation g.B.Body.keys c.args.name.now rows (sym c.contains_key.ensures ∙ c.if-contains_key.false))
    ∙ ap (knows_relvar c.args.name.now) now ∙ sym c.has_relvar.ensures ∙ c.if-not-has_relvar.false
