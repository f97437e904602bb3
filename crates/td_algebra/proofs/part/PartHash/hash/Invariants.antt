use Rattle.std.proofs.Common.{◌≡◌, fold, take}
use Rattle.td_algebra.specs.code.Lookups.{values_at}
use Rattle.td_algebra.specs.code.Parts.{fed_values}
use Rattle.td_algebra.proofs.part.PartHash.hash.Given as goal

abbrev pub invariant-loop-place : goal.invariant-loop-place
invariant-loop-place g l =
    l.state ≡ fold g.H.Hasher.write l.fn.state (fed_values (values_at (take l.place-index l.self-inside.places.now) l.self-inside.values.now))
