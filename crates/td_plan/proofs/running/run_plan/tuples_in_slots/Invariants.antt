use Rattle.std.proofs.Common.{◌≡◌, Some, map, take}
use Rattle.td_plan.proofs.running.run_plan.tuples_in_slots.Given as goal

abbrev pub invariant-loop-tuple : goal.invariant-loop-tuple
invariant-loop-tuple l = l.rows.items ≡ map (λ t. Some t.now) (take l.tuple-index l.tuples)
