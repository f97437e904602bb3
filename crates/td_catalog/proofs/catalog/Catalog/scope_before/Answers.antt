use Rattle.std.proofs.Common.{◌∙◌, ap, take}
use Rattle.td_catalog.specs.code.CatalogViews.{known_of, rows_of}
use Rattle.td_catalog.specs.model.Database.{Database, database_scope, with_virtuals}
use Rattle.td_catalog.specs.code.KeptDatabases.{CatalogView}
use Rattle.td_catalog.proofs.Named.{lent_is}
use Rattle.td_catalog.proofs.catalog.Catalog.scope_before.Goals as goal

pub returns : goal.returns
returns g c =
    c.over_declared.ensures
    ∙ lent_is g.B.Body.relation g.B.Body.keys (rows_of c.self.inside.tables) (known_of c.self.inside.tables) c.self.invariant.named c.self.invariant.history.catalog.entries c.args.count
    ∙ ap (λ (db : Database). database_scope (with_virtuals (take c.args.count db.virtuals) db)) (ap (λ (v : CatalogView). v.database) c.self.view_is)
