use Rattle.std.proofs.Common.{◌≡◌, drop}
use Rattle.td_types.specs.model.Headings.{agree}
use Rattle.td_types.specs.code.Views.{heading_view}
use Rattle.td_types.proofs.heading.Heading.agrees_with.Given as goal

abbrev pub invariant-loop-attribute : goal.invariant-loop-attribute
invariant-loop-attribute l = agree (heading_view (drop l.attribute-index l.attribute-items)) l.other ≡ agree l.self l.other
