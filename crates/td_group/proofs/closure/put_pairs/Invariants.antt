use Rattle.std.proofs.Common.{◌≡◌, ◌++◌, [], map, take}
use Rattle.td_value.specs.code.Blocks.{making}
use Rattle.td_group.specs.code.Successors.{pair_of}
use Rattle.td_group.proofs.closure.put_pairs.Given as goal

abbrev pub invariant-loop-value : goal.invariant-loop-value
invariant-loop-value l =
    (l.made ≡ making l.fn.made.names (l.fn.made.tuples ++ map (pair_of l.fn.made.names l.from) (take l.value-index (map (λ v. v.now) l.values))))
    × (l.row.items ≡ [])
