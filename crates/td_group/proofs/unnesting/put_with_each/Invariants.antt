use Rattle.std.proofs.Common.{◌≡◌, ◌++◌, map, take}
use Rattle.td_algebra.specs.code.Pairs.{pair_tuple}
use Rattle.td_group.proofs.unnesting.put_with_each.Given as goal

abbrev pub invariant-loop-tuple : goal.invariant-loop-tuple
invariant-loop-tuple l =
    (l.laid.0 ≡ l.fn.laid.0)
    × (l.laid.1 ≡ l.fn.laid.1 ++ map (pair_tuple l.fn.laid.0 l.row) (take l.tuple-index l.tuples))
