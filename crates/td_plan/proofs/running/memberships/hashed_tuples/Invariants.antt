use Rattle.std.proofs.Common.{◌≡◌, take}
use Rattle.std.specs.HashSet.{contains}
use Rattle.std.specs.Ordering.{eq_by_cmp}
use Rattle.td_value.specs.model.Sets.{has}
use Rattle.td_value.specs.model.Values.{Tuple, tuple_cmp}
use Rattle.td_plan.proofs.running.memberships.hashed_tuples.Given as goal

abbrev pub invariant-loop-row : goal.invariant-loop-row
invariant-loop-row l = (t : Tuple) → contains (eq_by_cmp tuple_cmp) l.set t ≡ has tuple_cmp t (take l.row-index l.rows)
