use Rattle.std.proofs.Common.{take}
use Rattle.std.specs.List.{All}
use Rattle.td_value.specs.model.Values.{IsTuple}
use Rattle.td_algebra.proofs.laid_out.know_tuples.Given as goal

abbrev pub invariant-loop-tuple : goal.invariant-loop-tuple
invariant-loop-tuple l = All IsTuple (take l.tuple-index l.tuples)
