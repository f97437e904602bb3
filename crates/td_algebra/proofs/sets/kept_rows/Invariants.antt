use Rattle.std.proofs.Common.{◌≡◌, ◌++◌, drop, filter}
use Rattle.td_algebra.specs.code.Merges.{IsAbreast, is_wanted}
use Rattle.td_value.specs.model.Values.{IsAscendingBody}
use Rattle.td_algebra.proofs.sets.kept_rows.Given as goal

abbrev pub invariant-loop-row : goal.invariant-loop-row
invariant-loop-row l =
    (l.kept.items ++ filter (is_wanted l.wanted l.others) (drop l.row-index l.rows) ≡ filter (is_wanted l.wanted l.others) l.rows)
    × IsAscendingBody l.rest × IsAbreast (drop l.row-index l.rows) l.rest l.others
