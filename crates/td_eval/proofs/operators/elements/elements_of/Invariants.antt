use Rattle.std.proofs.Common.{map, take}
use Rattle.std.specs.List.{All}
use Rattle.td_eval.specs.model.OperatorValues.{element_of}
use Rattle.td_tree.specs.code.Gatherings.{IsGathered}
use Rattle.td_value.specs.model.Values.{IsTupleOf}
use Rattle.td_eval.proofs.operators.elements.elements_of.Given as goal

abbrev pub invariant-loop-element : goal.invariant-loop-element
invariant-loop-element l =
    IsGathered l.causes (map (λ t. t) l.tuples.items) (map (element_of l.fn.heading) (take l.element-index l.elements))
    × All (IsTupleOf l.fn.heading) l.tuples.items
