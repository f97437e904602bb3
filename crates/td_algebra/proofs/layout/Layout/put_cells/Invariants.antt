use Rattle.std.proofs.Common.{◌≡◌, ◌++◌, map, take}
use Rattle.td_algebra.specs.code.Columns.{cells_at}
use Rattle.td_algebra.proofs.Layouts.{value_in}
use Rattle.td_algebra.proofs.layout.Layout.put_cells.Given as goal

abbrev pub invariant-loop-place : goal.invariant-loop-place
invariant-loop-place l = l.row.items ≡ map (value_in (l.first ++ cells_at l.at l.columns)) (take l.place-index l.place-items)
