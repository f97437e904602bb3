use Rattle.std.proofs.Common.{◌≡◌, ◌++◌, map, take}
use Rattle.td_algebra.specs.code.Pairs.{pair_tuple}
use Rattle.td_algebra.proofs.joins.put_with_each.Given as goal

abbrev pub invariant-loop-other : goal.invariant-loop-other
invariant-loop-other l =
    (l.pairs.0 ≡ l.fn.pairs.0)
    × (l.pairs.1 ≡ l.fn.pairs.1 ++ map (pair_tuple l.fn.pairs.0 l.row) (take l.other-index l.others))
