use Rattle.std.proofs.Common.{◌∙◌, ap, length, sym}
use Rattle.td_catalog.specs.code.CatalogViews.{rows_of}
use Rattle.td_catalog.specs.code.KeptDatabases.{CatalogView}
use Rattle.td_catalog.proofs.Steps.{view_counted}
use Rattle.td_catalog.proofs.catalog.Catalog.kept.Goals as goal

pub returns : goal.returns
returns g c =
    ap length c.as_slice.ensures.value
    ∙ sym (view_counted g.B.Body.relation g.B.Body.keys g.B.Body.kept (rows_of c.self.inside.tables) c.self.inside.log.steps.items)
    ∙ ap (λ (v : CatalogView). length v.kept) c.self.view_is
