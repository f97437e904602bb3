use Rattle.std.proofs.Common.{◌≡◌, take}
use Rattle.td_group.proofs.grouping.copies_of.Given as goal

abbrev pub invariant-loop-tuple : goal.invariant-loop-tuple
invariant-loop-tuple l = l.copies.items ≡ take l.tuple-index l.tuples
