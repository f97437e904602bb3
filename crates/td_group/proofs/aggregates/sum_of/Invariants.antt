use Rattle.std.proofs.Common.{◌≡◌, ◌*◌, ◌^◌, pos, take}
use Rattle.std.specs.Prelude.{◌+ℤ◌, ◌≤ℤ◌}
use Rattle.td_group.specs.model.Aggregates.{sum_of}
use Rattle.td_group.proofs.aggregates.sum_of.Given as goal

abbrev pub invariant-loop-value : goal.invariant-loop-value
invariant-loop-value l =
    (l.total ≡ sum_of (take l.value-index l.values)) × (l.total ≤ℤ pos (l.value-index * 2 ^ 63)) × (pos 0 ≤ℤ (l.total +ℤ pos (l.value-index * 2 ^ 63)))
