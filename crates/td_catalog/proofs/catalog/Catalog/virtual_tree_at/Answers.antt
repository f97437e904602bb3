use Rattle.std.proofs.Common.{◌∙◌, Some, ap, option_map}
use Rattle.td_catalog.specs.code.KeptDatabases.{CatalogView}
use Rattle.std.specs.List.{slice_get}
use Rattle.td_catalog.specs.model.Database.{Database, VirtualRelvar}
use Rattle.td_catalog.proofs.ByPlace.{tree_at}
use Rattle.td_catalog.proofs.catalog.Catalog.virtual_tree_at.Goals as goal
use Rattle.td_tree.specs.code.TreeViews.{tree_view}

pub returns : goal.returns
returns g c =
    ap Some c.tree.ensures
    ∙ ap (option_map (λ row. row.1.tree)) c.in_ok-entry.ensures.entry
    ∙ tree_at c.self.inside.tables.virtuals.entries c.args.place
    ∙ ap (λ (db : Database). option_map (λ (v : VirtualRelvar). v.tree) (slice_get db.virtuals c.args.place)) (ap (λ (v : CatalogView). v.database) c.self.view_is)

pub returns-in_err-entry : goal.returns-in_err-entry
returns-in_err-entry g c =
    ap (option_map (λ e. tree_view e.now)) c.from_residual.ensures
    ∙ ap (option_map (λ row. row.1.tree)) c.in_err-entry.ensures.entry
    ∙ tree_at c.self.inside.tables.virtuals.entries c.args.place
    ∙ ap (λ (db : Database). option_map (λ (v : VirtualRelvar). v.tree) (slice_get db.virtuals c.args.place)) (ap (λ (v : CatalogView). v.database) c.self.view_is)
