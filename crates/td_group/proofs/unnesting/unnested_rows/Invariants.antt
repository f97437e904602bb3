use Rattle.std.proofs.Common.{◌≡◌, take}
use Rattle.td_algebra.specs.code.Pairs.{pair_tuple, pairs_with}
use Rattle.td_group.specs.model.Nesting.{tuples_inside}
use Rattle.td_value.specs.model.Values.{value_at}
use Rattle.td_group.proofs.unnesting.unnested_rows.Given as goal

abbrev pub invariant-loop-row : goal.invariant-loop-row
invariant-loop-row l =
    (l.laid.0 ≡ l.layout)
    × (l.laid.1 ≡ pairs_with (λ u. tuples_inside (value_at l.name u)) (pair_tuple l.layout) (take l.row-index l.rows))
