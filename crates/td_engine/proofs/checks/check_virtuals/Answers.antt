use Rattle.std.proofs.Common.{sym}
use Rattle.td_catalog.specs.code.CatalogViews.{virtual_view}
use Rattle.td_engine.specs.model.Checks.{virtual_check}
use Rattle.td_engine.specs.laws.LeftOut.{PassesUnlessReached}
use Rattle.td_engine.proofs.law_lemmas.EachOf.{of_place}
use Rattle.td_engine.proofs.law_lemmas.InOrder.{passed_next, refusal_at}
use Rattle.td_engine.proofs.code_lemmas.Plannables.{virtual_plannable}
use Rattle.td_eval.specs.model.DatabaseWorlds.{world_of}
use Rattle.td_engine.proofs.checks.check_virtuals.Goals as goal

pub check_virtual-requires-clause-plannable : goal.check_virtual-requires-clause-plannable
check_virtual-requires-clause-plannable g c =
    virtual_plannable c.args.catalog.now.database c.reveal.ensures c.loop-place.place
    (virtual_view (c.in-Some.name.now, c.in-Some.entry.now)) (sym c.in-Some.ensures)

pub check_virtual-requires-clause-elsewhere : goal.check_virtual-requires-clause-elsewhere
check_virtual-requires-clause-elsewhere g c =
    let db = c.args.catalog.now.database in
    of_place (PassesUnlessReached c.args.reached.now (world_of db)) db.virtuals c.loop-place.place (virtual_view (c.in-Some.name.now, c.in-Some.entry.now))
    c.requires (sym c.in-Some.ensures)

pub returns-in-Err : goal.returns-in-Err
returns-in-Err g c =
    let db = c.args.catalog.now.database in
    let v = virtual_view (c.in-Some.name.now, c.in-Some.entry.now) in
    refusal_at (virtual_check (world_of db)) db.virtuals c.loop-place.place v c.in-Err.failure c.loop-place.invariant (sym c.in-Some.ensures) c.in-Err.ensures

pub loop-place-preserved : goal.loop-place-preserved
loop-place-preserved g c =
    let db = c.args.catalog.now.database in
    let v = virtual_view (c.in-Some.name.now, c.in-Some.entry.now) in
    passed_next (virtual_check (world_of db)) db.virtuals c.loop-place.place v c.loop-place.invariant (sym c.in-Some.ensures) c.in-Ok.ensures
