use Rattle.std.proofs.Common.{map, take}
use Rattle.td_tree.specs.code.Gatherings.{IsGathered}
use Rattle.td_types.specs.code.Views.{pairs_view}
use Rattle.td_types.proofs.Resolutions.{outcome_of}
use Rattle.td_types.proofs.resolve.+resolve.Given as goal

abbrev pub invariant-resolve_attributes-loop-attribute : goal.invariant-resolve_attributes-loop-attribute
invariant-resolve_attributes-loop-attribute l =
    IsGathered l.causes (pairs_view l.attributes.items) (map (outcome_of l.table) (take l.attribute-index l.heading))
