use Rattle.std.proofs.Common.{map, take}
use Rattle.td_tree.specs.code.Gatherings.{IsGathered}
use Rattle.td_check.specs.model.OperatorTypes.{element_type}
use Rattle.td_types.specs.code.Views.{type_view}
use Rattle.td_check.proofs.rules.lists.headed_type.Given as goal

abbrev pub invariant-loop-element : goal.invariant-loop-element
invariant-loop-element l =
    IsGathered l.causes (map type_view (take l.element-index l.elements))
    (map (λ e. element_type l.fn.heading (type_view e)) (take l.element-index l.elements))
