use Rattle.std.proofs.Common.{◌≡◌, take}
use Rattle.td_types.specs.model.Types.{attribute_names}
use Rattle.td_group.specs.model.Groups.{groups_on}
use Rattle.td_group.proofs.groups.groups_on.Given as goal

abbrev pub invariant-loop-tuple : goal.invariant-loop-tuple
invariant-loop-tuple l = l.found.items ≡ groups_on (attribute_names l.common) l.rel (take l.tuple-index l.per.body)
