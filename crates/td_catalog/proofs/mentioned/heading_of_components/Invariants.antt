use Rattle.std.proofs.Common.{◌≡◌, take}
use Rattle.td_catalog.proofs.mentioned.heading_of_components.Given as goal
use Rattle.td_types.specs.code.Views.{pairs_view}

abbrev pub invariant-loop-name : goal.invariant-loop-name
invariant-loop-name l = pairs_view l.attributes.items ≡ pairs_view (take l.name-index l.components)
