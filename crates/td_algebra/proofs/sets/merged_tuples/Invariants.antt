use Rattle.std.proofs.Common.{◌≡◌, ◌++◌, drop}
use Rattle.td_algebra.specs.code.Merges.{merged_tuples}
use Rattle.td_algebra.proofs.sets.merged_tuples.Given as goal

abbrev pub invariant-loop-row : goal.invariant-loop-row
invariant-loop-row l = l.kept.items ++ merged_tuples (drop l.row-index l.rows) l.rest ≡ merged_tuples l.rows l.others
