use Rattle.std.proofs.Common.{sym}
use Rattle.td_catalog.specs.code.CatalogViews.{virtual_view}
use Rattle.td_engine.proofs.code_lemmas.Plannables.{virtual_plannable}
use Rattle.td_engine.proofs.checks.check_last_virtual.Goals as goal

pub test_virtual-requires : goal.test_virtual-requires
test_virtual-requires g c =
    virtual_plannable c.args.catalog.now.database c.reveal.ensures c.saturating_sub-place.result
    (virtual_view (c.in-Some.name.now, c.in-Some.entry.now)) (sym c.in-Some.ensures)
