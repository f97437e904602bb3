use Rattle.std.proofs.Common.{◌≡◌, fold, drop}
use Rattle.td_types.specs.model.Headings.{add_missing}
use Rattle.td_types.specs.code.Views.{heading_view}
use Rattle.td_types.proofs.heading.Heading.union.Given as goal

abbrev pub invariant-loop-attribute : goal.invariant-loop-attribute
invariant-loop-attribute l = fold add_missing l.union (heading_view (drop l.attribute-index l.attribute-items)) ≡ fold add_missing l.self l.other
