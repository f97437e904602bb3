use Rattle.std.proofs.Common.{◌≡◌}
use Rattle.td_value.specs.model.Values.{AreFields, pack_fields}
use Rattle.td_value.specs.code.Views.{values_of}
use Rattle.td_value.proofs.tuple.values_alone.Given as goal

abbrev pub invariant-loop-name : goal.invariant-loop-name
invariant-loop-name l = (l.values.items ≡ values_of l.yielded) × AreFields (pack_fields l.yielded)
