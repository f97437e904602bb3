use Rattle.std.proofs.Common.{◌≡◌, ◌≤◌, ◌++◌, drop, length}
use Rattle.td_value.specs.code.Blocks.{AreWhole, rows_of}
use Rattle.td_value.proofs.tuples.lone_rows.Given as goal

abbrev pub decreases-loop-left : goal.decreases-loop-left
decreases-loop-left l = l.left

abbrev pub invariant-loop-left : goal.invariant-loop-left
invariant-loop-left l =
    (l.start ≤ length l.cells) × AreWhole l.names.value.items l.left (drop l.start l.cells)
    × (l.tuples.items ++ rows_of l.names.value.items l.left (drop l.start l.cells) ≡ rows_of l.names.value.items l.count l.cells)
