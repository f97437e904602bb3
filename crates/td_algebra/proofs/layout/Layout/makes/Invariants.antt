use Rattle.std.proofs.Common.{◌≡◌, map, take}
use Rattle.td_algebra.proofs.Layouts.{value_in}
use Rattle.td_algebra.proofs.layout.Layout.makes.Given as goal

abbrev pub invariant-loop-index : goal.invariant-loop-index
invariant-loop-index l = take l.index l.own ≡ map (value_in l.values) (take l.index l.self-inside.places.items)
