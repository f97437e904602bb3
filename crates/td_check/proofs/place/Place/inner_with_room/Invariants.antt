use Rattle.std.proofs.Common.{◌≡◌, take}
use Rattle.td_check.proofs.place.Place.inner_with_room.Given as goal

abbrev pub invariant-loop-outer : goal.invariant-loop-outer
invariant-loop-outer l = l.inner.items ≡ take l.outer-index l.outer-items
