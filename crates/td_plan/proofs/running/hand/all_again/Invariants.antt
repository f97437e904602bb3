use Rattle.std.proofs.Common.{◌≡◌, map, take}
use Rattle.td_plan.specs.code.Hands.{cells_of}
use Rattle.td_plan.proofs.running.hand.all_again.Given as goal

abbrev pub invariant-loop-row : goal.invariant-loop-row
invariant-loop-row l = map cells_of l.copy.items ≡ map cells_of (take l.row-index l.rows)
