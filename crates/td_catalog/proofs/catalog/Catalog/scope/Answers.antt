use Rattle.std.proofs.Common.{◌≡◌, ◌∙◌, ap, arith, take}
use Rattle.td_catalog.specs.code.KeptDatabases.{CatalogView}
use Rattle.std.proofs.lemmas.List.{take_all}
use Rattle.td_catalog.specs.model.Database.{Database, database_scope, with_virtuals}
use Rattle.td_catalog.proofs.ByPlace.{rows_counted}
use Rattle.td_catalog.proofs.catalog.Catalog.scope.Goals as goal

pub returns : goal.returns
returns g c =
    let db = c.args.self.now.database in
    let counted = rows_counted c.self.inside.tables.virtuals.entries db (ap (λ (d : Database). d.virtuals) (ap (λ (v : CatalogView). v.database) c.self.view_is)) in
    let same : take c.len.result db.virtuals ≡ db.virtuals = take_all c.len.result db.virtuals (omega (arith, counted, c.len.ensures.len)) in
    c.scope_before.ensures ∙ ap (λ vs. database_scope (with_virtuals vs db)) same
