use Rattle.std.proofs.Common.{◌≡◌, ◌++◌, take}
use Rattle.td_value.proofs.tuples.put_copies.Given as goal

abbrev pub invariant-loop-value : goal.invariant-loop-value
invariant-loop-value l = l.made.items ≡ l.initial.made.items ++ take l.value-index l.values
