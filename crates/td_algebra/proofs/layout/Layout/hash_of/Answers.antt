use Rattle.std.proofs.Common.{◌<◌, ◌++◌, [], length, get_or, subst, sym}
use Rattle.std.proofs.lemmas.List.{append-nil}
use Rattle.td_algebra.specs.code.Layouts.{AreInRange}
use Rattle.td_algebra.proofs.Layouts.{place_below}
use Rattle.td_algebra.proofs.layout.Layout.hash_of.Goals as goal

pub value_at-requires : goal.value_at-requires
value_at-requires c =
    let inside = c.self.inside in
    let vs = c.args.values.now in
    let places = c.deref-place-items.ensures.value in
    let below = subst (λ ps. c.loop-place.place-index < length ps) places c.loop-place-test.true in
    subst (λ ps. get_or ps c.loop-place.place-index 0 < length (vs ++ [])) (sym places)
    (place_below inside.names inside.places.items (vs ++ []) c.loop-place.place-index c.self.invariant
    (subst (λ ss. AreInRange ss (vs ++ [])) (sym c.self.view_is) (subst (AreInRange c.args.self.now) (sym (append-nil vs)) c.requires)) below)
