use Rattle.std.proofs.Common.{◌++◌, length, subst, sym, get_or, ◌<◌}
use Rattle.td_algebra.specs.code.Columns.{cells_at}
use Rattle.td_algebra.specs.code.Layouts.{AreInRange}
use Rattle.td_algebra.proofs.Layouts.{place_below, placed_all, placed_one}
use Rattle.td_algebra.proofs.layout.Layout.put_cells.Goals as goal

pub cell_at-requires-clause-range : goal.cell_at-requires-clause-range
cell_at-requires-clause-range c =
    let inside = c.self.inside in
    let vs = c.args.first.now ++ cells_at c.args.at c.args.columns.now in
    let places = c.deref-place-items.ensures.value in
    let below = subst (λ ps. c.loop-place.place-index < length ps) places c.loop-place-test.true in
    subst (λ ps. get_or ps c.loop-place.place-index 0 < length vs) (sym places)
    (place_below inside.names inside.places.items vs c.loop-place.place-index c.self.invariant (subst (λ ss. AreInRange ss vs) (sym c.self.view_is) c.requires.range) below)

pub loop-place-preserved : goal.loop-place-preserved
loop-place-preserved c =
    placed_one (c.args.first.now ++ cells_at c.args.at c.args.columns.now) c.deref-place-items.result.now c.loop-place.place-index c.cell_at.result.now c.in_ok-try_clone.field-0 _ _
    c.loop-place-test.true c.cell_at.ensures c.in_ok-try_clone.ensures c.in_ok-push.ensures.items c.loop-place.invariant

pub returns : goal.returns
returns c =
    placed_all c.self.inside.names c.self.inside.places.items (c.args.first.now ++ cells_at c.args.at c.args.columns.now) _ _ c.loop-place.place-index _ c.self.invariant c.self.view_is
    c.deref-place-items.ensures.value c.loop-place-test.false c.loop-place.invariant
