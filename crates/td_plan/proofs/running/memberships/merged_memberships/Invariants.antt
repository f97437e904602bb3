use Rattle.std.proofs.Common.{◌≡◌, map, take}
use Rattle.std.specs.Ordering.{int_cmp}
use Rattle.td_value.specs.model.Sets.{has}
use Rattle.td_plan.proofs.running.memberships.merged_memberships.Given as goal

abbrev pub invariant-loop-number : goal.invariant-loop-number
invariant-loop-number l = l.truths.items ≡ map (λ z. has int_cmp z l.members) (take l.number-index l.numbers)
