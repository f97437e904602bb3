use Rattle.std.proofs.Common.{◌≡◌, filter, take}
use Rattle.td_algebra.specs.code.Merges.{is_wanted}
use Rattle.td_algebra.proofs.sets.searched_rows.Given as goal

abbrev pub invariant-loop-row : goal.invariant-loop-row
invariant-loop-row l = l.kept.items ≡ filter (is_wanted l.wanted l.other.body) (take l.row-index l.rows)
