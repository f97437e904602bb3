use Rattle.std.proofs.Common.{◌≡◌, map, take}
use Rattle.td_group.specs.code.Successors.{ArePairsFrom, successors_at}
use Rattle.td_group.proofs.closure.pairs_from.Given as goal

abbrev pub invariant-loop-start : goal.invariant-loop-start
invariant-loop-start l =
    (l.made.names ≡ l.names) × ArePairsFrom (successors_at l.table) l.names (take l.start-index (map (λ v. v.now) l.starts)) l.made.tuples
