use Rattle.std.proofs.Common.{map, take}
use Rattle.td_group.specs.code.Successors.{HaveSameValues, starts_in}
use Rattle.td_group.proofs.closure.starts_of.Given as goal

abbrev pub invariant-loop-row : goal.invariant-loop-row
invariant-loop-row l = HaveSameValues (map (λ v. v.now) l.starts.items) (starts_in (take l.row-index l.rows))
