use Rattle.std.proofs.Common.{◌∙◌, ap}
use Rattle.td_catalog.specs.code.KeptDatabases.{CatalogView}
use Rattle.std.specs.List.{position}
use Rattle.td_catalog.specs.model.Database.{Database, VirtualRelvar}
use Rattle.td_catalog.proofs.ByPlace.{place_found}
use Rattle.td_catalog.proofs.catalog.Catalog.virtual_place.Goals as goal
use Rattle.td_types.specs.model.Types.{same_name}

pub returns : goal.returns
returns g c =
    c.get_index_of.ensures.index ∙ place_found c.args.name.now c.self.inside.tables.virtuals.entries
    ∙ ap (λ (db : Database). position (λ (v : VirtualRelvar). same_name v.name c.args.name.now) db.virtuals) (ap (λ (v : CatalogView). v.database) c.self.view_is)
