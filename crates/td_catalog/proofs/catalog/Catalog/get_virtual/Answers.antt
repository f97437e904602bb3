use Rattle.std.proofs.Common.{◌∙◌, ap, refl, option_map}
use Rattle.td_catalog.specs.code.KeptDatabases.{CatalogView}
use Rattle.td_catalog.specs.code.CatalogViews.{virtual_view}
use Rattle.td_catalog.specs.model.Database.{VirtualRelvar, virtual_named}
use Rattle.td_catalog.proofs.Rows.{found, map_references}
use Rattle.td_catalog.proofs.catalog.Catalog.get_virtual.Goals as goal

pub returns : goal.returns
returns g c =
    map_references (λ e. virtual_view (c.args.name.now, e)) c.get.result
    ∙ ap (option_map (λ e. virtual_view (c.args.name.now, e))) c.get.ensures.value
    ∙ found virtual_view (λ (v : VirtualRelvar). v.name) (λ row. refl) c.args.name.now c.self.inside.tables.virtuals.entries
    ∙ ap (virtual_named c.args.name.now) (ap (λ (v : CatalogView). v.database) c.self.view_is)
