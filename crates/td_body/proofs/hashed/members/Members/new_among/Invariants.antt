use Rattle.std.proofs.Common.{◌≡◌, map, not, take}
use Rattle.td_value.specs.model.Sets.{has}
use Rattle.td_value.specs.model.Values.{tuple_cmp}
use Rattle.td_body.proofs.hashed.members.Members.new_among.Given as goal

abbrev pub invariant-loop-tuple : goal.invariant-loop-tuple
invariant-loop-tuple l = l.mask.items ≡ map (λ t. not (has tuple_cmp t l.self.relation.body)) (take l.tuple-index l.tuples)
