use Rattle.std.proofs.Common.{◌≡◌, take}
use Rattle.td_algebra.specs.code.Pairs.{pair_tuple, pairs_with}
use Rattle.td_algebra.proofs.joins.all_pairs.Given as goal

abbrev pub invariant-loop-row : goal.invariant-loop-row
invariant-loop-row l =
    (l.pairs.0 ≡ l.layout)
    × (l.pairs.1 ≡ pairs_with (λ t. l.others) (pair_tuple l.layout) (take l.row-index l.rows))
