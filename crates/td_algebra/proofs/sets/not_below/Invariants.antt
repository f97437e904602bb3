use Rattle.std.proofs.Common.{◌≡◌, length}
use Rattle.td_algebra.specs.code.Merges.{not_below}
use Rattle.td_algebra.proofs.sets.not_below.Given as goal

abbrev pub invariant-loop-rest : goal.invariant-loop-rest
invariant-loop-rest l = not_below l.row l.rest ≡ not_below l.row l.rows

abbrev pub decreases-loop-rest : goal.decreases-loop-rest
decreases-loop-rest l = length l.rest
