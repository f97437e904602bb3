use Rattle.std.proofs.Common.{◌≤◌, take}
use Rattle.td_value.specs.model.Values.{pack_parts}
use Rattle.td_value.specs.code.Depths.{parts_depth}
use Rattle.td_value.proofs.tuples.are_flat.Given as goal

abbrev pub invariant-loop-value : goal.invariant-loop-value
invariant-loop-value l = parts_depth (pack_parts (take l.value-index l.values)) ≤ 1
