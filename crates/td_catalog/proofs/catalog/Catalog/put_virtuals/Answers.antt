use Rattle.td_catalog.specs.model.Dumps.{virtual_line}
use Rattle.td_catalog.proofs.Lines.{line_put}
use Rattle.td_catalog.proofs.catalog.Catalog.put_virtuals.Goals as goal

pub loop-place-preserved : goal.loop-place-preserved
loop-place-preserved g c =
    line_put virtual_line c.args.self.now.database.virtuals c.loop-place.place _ _ c.loop-place.invariant _ _ c.in-Some.ensures c.in_ok-put_virtual.ensures
