use Rattle.std.proofs.Common.{◌∙◌, ap, sym}
use Rattle.td_catalog.specs.code.KeptDatabases.{CatalogView}
use Rattle.td_catalog.specs.code.CatalogViews.{rows_of}
use Rattle.td_catalog.specs.model.Database.{knows_relvar}
use Rattle.td_catalog.proofs.Changes.{known_base, unknown_base}
use Rattle.td_catalog.proofs.catalog.Catalog.has_relvar.Goals as goal

pub returns-then-contains_key : goal.returns-then-contains_key
returns-then-contains_key g c =
    c.if-contains_key.true
    ∙ sym (known_base g.B.Body.relation g.B.Body.keys c.args.name.now
    (rows_of c.self.inside.tables)
    (sym c.contains_key.ensures ∙ c.if-contains_key.true))
    ∙ ap (knows_relvar c.args.name.now) (ap (λ (v : CatalogView). v.database) c.self.view_is)

pub returns-else-contains_key : goal.returns-else-contains_key
returns-else-contains_key g c =
    c.contains_key-else-contains_key.ensures
    ∙ sym (unknown_base g.B.Body.relation g.B.Body.keys c.args.name.now
    (rows_of c.self.inside.tables)
    (sym c.contains_key.ensures ∙ c.if-contains_key.false))
    ∙ ap (knows_relvar c.args.name.now) (ap (λ (v : CatalogView). v.database) c.self.view_is)
