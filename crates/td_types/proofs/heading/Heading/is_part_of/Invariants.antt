use Rattle.std.proofs.Common.{◌≡◌, drop}
use Rattle.td_types.specs.model.Headings.{is_part}
use Rattle.td_types.specs.code.Views.{heading_view}
use Rattle.td_types.proofs.heading.Heading.is_part_of.Given as goal

abbrev pub invariant-loop-attribute : goal.invariant-loop-attribute
invariant-loop-attribute l = is_part (heading_view (drop l.attribute-index l.attribute-items)) l.other ≡ is_part l.self l.other
