use Rattle.std.proofs.Common.{◌≡◌, map, take}
use Rattle.std.specs.List.{All}
use Rattle.td_eval.proofs.code_lemmas.FittingTuples.{fitted}
use Rattle.td_tree.specs.model.Outcomes.{Valued, gathered}
use Rattle.td_value.specs.model.Values.{IsTupleOf}
use Rattle.td_eval.proofs.operators.elements.all_fit.Given as goal

abbrev pub invariant-loop-tuple : goal.invariant-loop-tuple
invariant-loop-tuple l =
    (gathered (map (fitted l.heading) (take l.tuple-index l.tuples)) ≡ Valued (take l.tuple-index l.tuples))
    × All (IsTupleOf l.heading) (take l.tuple-index l.tuples)
