use Rattle.std.proofs.Common.{◌-◌, length, map}
use Rattle.td_group.specs.code.Successors.{AreSeen, successors_at}
use Rattle.td_group.proofs.Graphs.{AreFound}
use Rattle.td_group.proofs.Tables.{all_successors}
use Rattle.td_group.proofs.closure.values_reached.Given as goal

abbrev pub invariant-loop-place : goal.invariant-loop-place
invariant-loop-place l =
    AreSeen l.seen (map (λ v. v.now) l.found.items)
    × AreFound (successors_at l.table) l.start (map (λ v. v.now) l.found.items) l.place (all_successors l.table)

abbrev pub decreases-loop-place : goal.decreases-loop-place
decreases-loop-place l = length (all_successors l.table) - l.place
