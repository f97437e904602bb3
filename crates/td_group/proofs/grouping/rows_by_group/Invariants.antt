use Rattle.std.proofs.Common.{◌≡◌, take}
use Rattle.std.specs.List.{flat_map}
use Rattle.td_algebra.specs.code.Lookups.{partners_in}
use Rattle.td_group.proofs.grouping.rows_by_group.Given as goal

abbrev pub invariant-loop-tuple : goal.invariant-loop-tuple
invariant-loop-tuple l = l.rows.items ≡ flat_map (partners_in l.lookup l.places) (take l.tuple-index l.tuples)
