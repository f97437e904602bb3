use Rattle.std.proofs.Common.{◌≡◌, take}
use Rattle.td_group.specs.model.Aggregates.{greatest_value}
use Rattle.td_group.proofs.aggregates.greatest.Given as goal

abbrev pub invariant-loop-value : goal.invariant-loop-value
invariant-loop-value l = l.best ≡ greatest_value l.first (take l.value-index l.others)
