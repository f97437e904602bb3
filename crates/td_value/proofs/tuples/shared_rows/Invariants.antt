use Rattle.std.proofs.Common.{◌≡◌, ◌≤◌, ◌++◌, drop, length}
use Rattle.td_value.specs.model.Values.{pack_parts}
use Rattle.td_value.specs.code.Blocks.{AreAsDeep, AreWhole, rows_of}
use Rattle.td_value.specs.code.Depths.{parts_depth}
use Rattle.td_value.proofs.tuples.shared_rows.Given as goal

abbrev pub decreases-loop-left : goal.decreases-loop-left
decreases-loop-left l = l.left

abbrev pub invariant-loop-left : goal.invariant-loop-left
invariant-loop-left l =
    (l.start ≤ length l.block.value.cells.items) × AreWhole l.block.value.names.value.items l.left (drop l.start l.block.value.cells.items)
    × AreAsDeep l.block.value.names.value.items l.left (drop l.start l.block.value.cells.items) (parts_depth (pack_parts l.block.value.cells.items))
    × (l.tuples.items ++ rows_of l.block.value.names.value.items l.left (drop l.start l.block.value.cells.items) ≡ rows_of l.block.value.names.value.items l.count l.block.value.cells.items)
