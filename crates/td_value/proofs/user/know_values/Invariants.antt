use Rattle.std.proofs.Common.{take}
use Rattle.td_value.specs.model.Values.{AreValues, pack_parts}
use Rattle.td_value.proofs.user.know_values.Given as goal

abbrev pub invariant-loop-v : goal.invariant-loop-v
invariant-loop-v l = AreValues (pack_parts (take l.v-index l.values))
