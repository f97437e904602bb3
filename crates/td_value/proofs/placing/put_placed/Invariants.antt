use Rattle.std.proofs.Common.{◌≡◌, ◌++◌, take}
use Rattle.td_value.specs.code.Places.{values_at}
use Rattle.td_value.proofs.placing.put_placed.Given as goal

abbrev pub invariant-loop-place : goal.invariant-loop-place
invariant-loop-place l = l.cells.items ≡ l.fn.cells.items ++ values_at (take l.place-index l.places) (l.first ++ l.second)
