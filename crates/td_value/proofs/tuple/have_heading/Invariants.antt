use Rattle.std.proofs.Common.{take}
use Rattle.std.specs.List.{All}
use Rattle.td_value.specs.model.Values.{IsTupleOf}
use Rattle.td_value.proofs.tuple.have_heading.Given as goal

abbrev pub invariant-loop-tuple : goal.invariant-loop-tuple
invariant-loop-tuple l = All (IsTupleOf l.heading) (take l.tuple-index l.tuples)
