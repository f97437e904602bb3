use Rattle.std.proofs.Common.{◌≡◌, drop, map}
use Rattle.td_check.specs.model.OperatorTypes.{are_types_of}
use Rattle.td_types.specs.code.Views.{pairs_view, type_view}
use Rattle.td_check.proofs.rules.lists.are_types_of.Given as goal

abbrev pub invariant-loop-ty : goal.invariant-loop-ty
invariant-loop-ty l =
    are_types_of (map type_view (drop l.ty-index l.types)) (pairs_view l.rest)
    ≡ are_types_of (map type_view l.types) (pairs_view l.attributes)
