use Rattle.std.proofs.Common.{◌≡◌, ◌++◌, [], take}
use Rattle.td_value.proofs.sharing.put_rows.Given as goal

abbrev pub invariant-loop-row : goal.invariant-loop-row
invariant-loop-row l =
    (l.values.items ≡ []) × (l.made.names ≡ l.initial.made.names)
    × (l.made.tuples ≡ l.initial.made.tuples ++ take l.row-index l.rows)
