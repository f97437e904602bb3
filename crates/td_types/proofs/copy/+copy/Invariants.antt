use Rattle.std.proofs.Common.{◌≡◌, take}
use Rattle.td_types.specs.code.Views.{heading_view}
use Rattle.td_types.proofs.copy.+copy.Given as goal

abbrev pub invariant-copy_heading-loop-attribute : goal.invariant-copy_heading-loop-attribute
invariant-copy_heading-loop-attribute l = heading_view l.attributes.items ≡ heading_view (take l.attribute-index l.attribute-items)
