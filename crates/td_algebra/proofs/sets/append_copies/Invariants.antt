use Rattle.std.proofs.Common.{◌≡◌, ◌++◌, drop}
use Rattle.td_algebra.proofs.sets.append_copies.Given as goal

abbrev pub invariant-loop-row : goal.invariant-loop-row
invariant-loop-row l = l.kept.items ++ drop l.row-index l.rows ≡ l.fn.kept.items ++ l.rows
