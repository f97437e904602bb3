use Rattle.std.proofs.Common.{◌≡◌, drop}
use Rattle.std.specs.List.{list_all}
use Rattle.td_algebra.specs.code.Merges.{IsAbreast, is_wanted}
use Rattle.td_value.specs.model.Values.{IsAscendingBody}
use Rattle.td_algebra.proofs.sets.are_wanted.Given as goal

abbrev pub invariant-loop-row : goal.invariant-loop-row
invariant-loop-row l =
    (list_all (is_wanted l.wanted l.others) (drop l.row-index l.rows) ≡ list_all (is_wanted l.wanted l.others) l.rows)
    × IsAscendingBody l.rest × IsAbreast (drop l.row-index l.rows) l.rest l.others
