use Rattle.std.proofs.Common.{◌≡◌, drop}
use Rattle.td_algebra.specs.code.Lookups.{are_same, values_at}
use Rattle.td_algebra.proofs.part.are_same_at.Given as goal

abbrev pub invariant-loop-index : goal.invariant-loop-index
invariant-loop-index l =
    are_same (values_at (drop l.index l.places) l.values) (values_at (drop l.index l.other_places) l.others)
    ≡ are_same (values_at l.places l.values) (values_at l.other_places l.others)
