use Rattle.std.proofs.Common.{◌≡◌, ℤ, take}
use Rattle.std.specs.HashSet.{contains}
use Rattle.std.specs.Ordering.{eq_by_cmp, int_cmp}
use Rattle.td_value.specs.model.Sets.{has}
use Rattle.td_plan.proofs.running.memberships.hashed_numbers.Given as goal

abbrev pub invariant-loop-number : goal.invariant-loop-number
invariant-loop-number l = (z : ℤ) → contains (eq_by_cmp int_cmp) l.set z ≡ has int_cmp z (take l.number-index l.numbers)
