use Rattle.std.proofs.Common.{◌≡◌, ◌-◌, length}
use Rattle.td_plan.specs.code.Hands.{slots_in}
use Rattle.td_plan.proofs.running.hand.fill.Given as goal

abbrev pub invariant-loop-rows : goal.invariant-loop-rows
invariant-loop-rows l = slots_in l.rows.items ≡ slots_in l.initial.rows.items

abbrev pub decreases-loop-rows : goal.decreases-loop-rows
decreases-loop-rows l = l.count - length l.rows.items
