use Rattle.std.proofs.Common.{◌-◌, ◌≤◌, drop, length}
use Rattle.td_value.specs.model.Values.{IsAscendingBody}
use Rattle.td_value.proofs.relation.ascend.Given as goal

abbrev pub decreases-loop-place : goal.decreases-loop-place
decreases-loop-place l = l.place

abbrev pub invariant-loop-place : goal.invariant-loop-place
invariant-loop-place l = (l.place ≤ length l.rows - 1) × IsAscendingBody (drop l.place l.rows)
