use Rattle.std.proofs.Common.{◌≡◌, take}
use Rattle.td_value.proofs.relation.copies_of.Given as goal

abbrev pub invariant-loop-row : goal.invariant-loop-row
invariant-loop-row l = l.copy.items ≡ take l.row-index l.row-items
