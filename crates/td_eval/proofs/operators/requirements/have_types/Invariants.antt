use Rattle.std.proofs.Common.{◌≡◌, drop, map}
use Rattle.td_check.specs.model.OperatorTypes.{are_types_of}
use Rattle.td_types.specs.code.Views.{pairs_view}
use Rattle.td_value.specs.model.Values.{type_of}
use Rattle.td_eval.proofs.operators.requirements.have_types.Given as goal

abbrev pub invariant-loop-value : goal.invariant-loop-value
invariant-loop-value l =
    are_types_of (map type_of (drop l.value-index l.values)) (pairs_view l.rest)
    ≡ are_types_of (map type_of l.values) (pairs_view l.components)
