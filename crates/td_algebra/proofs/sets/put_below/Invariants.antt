use Rattle.std.proofs.Common.{◌≡◌, ◌++◌, length}
use Rattle.td_algebra.specs.code.Merges.{below, not_below}
use Rattle.td_algebra.proofs.sets.put_below.Given as goal

abbrev pub invariant-loop-rest : goal.invariant-loop-rest
invariant-loop-rest l =
    (l.kept.items ++ below l.row l.rest ≡ l.fn.kept.items ++ below l.row l.rows)
    × (not_below l.row l.rest ≡ not_below l.row l.rows)

abbrev pub decreases-loop-rest : goal.decreases-loop-rest
decreases-loop-rest l = length l.rest
