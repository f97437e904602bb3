use Rattle.std.proofs.Common.{◌≡◌, ◌++◌, drop}
use Rattle.td_algebra.specs.code.Masks.{kept_by}
use Rattle.td_algebra.proofs.restriction.kept_rows.Given as goal

abbrev pub invariant-loop-row : goal.invariant-loop-row
invariant-loop-row l =
    (l.place ≡ l.row-index)
    × (l.kept.items ++ kept_by (drop l.place l.mask) (drop l.place l.rows) ≡ kept_by l.mask l.rows)
