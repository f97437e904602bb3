use Rattle.std.proofs.Common.{◌≤◌, drop, length}
use Rattle.td_value.specs.code.Blocks.{AreOfDepth, AreWhole}
use Rattle.td_value.proofs.tuples.are_alike.Given as goal

abbrev pub decreases-loop-left : goal.decreases-loop-left
decreases-loop-left l = l.left

abbrev pub invariant-loop-left : goal.invariant-loop-left
invariant-loop-left l =
    (l.start ≤ length l.cells) × AreWhole l.names l.left (drop l.start l.cells)
    × (AreOfDepth l.names l.left (drop l.start l.cells) l.level → AreOfDepth l.names l.count l.cells l.level)
