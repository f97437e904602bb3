use Rattle.std.proofs.Common.{◌≡◌, map, take}
use Rattle.td_value.specs.model.Sets.{has}
use Rattle.td_value.specs.model.Values.{tuple_cmp}
use Rattle.td_plan.proofs.running.memberships.members_among.Given as goal

abbrev pub invariant-loop-tuple : goal.invariant-loop-tuple
invariant-loop-tuple l = l.truths.items ≡ map (λ u. has tuple_cmp u l.rel.body) (take l.tuple-index l.tuples)
