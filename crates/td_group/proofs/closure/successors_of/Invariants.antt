use Rattle.std.proofs.Common.{take}
use Rattle.td_group.specs.code.Successors.{AreSuccessors}
use Rattle.td_group.proofs.closure.successors_of.Given as goal

abbrev pub invariant-loop-row : goal.invariant-loop-row
invariant-loop-row l = AreSuccessors (take l.row-index l.rows) l.table
