use Rattle.std.proofs.Common.{◌≡◌, map, take}
use Rattle.td_value.specs.model.Agreement.{agree_on}
use Rattle.td_plan.proofs.running.look_up.agreements.Given as goal

abbrev pub invariant-loop-row : goal.invariant-loop-row
invariant-loop-row l = l.truths.items ≡ map (agree_on l.key l.part) (take l.row-index l.rows)
