use Rattle.std.proofs.Common.{◌≡◌, drop, fold, []}
use Rattle.td_types.specs.model.Headings.{add_missing, renamed_attributes}
use Rattle.td_types.specs.code.Views.{heading_view}
use Rattle.td_types.proofs.heading.Heading.rename.Given as goal

abbrev pub invariant-loop-attribute : goal.invariant-loop-attribute
invariant-loop-attribute l = fold add_missing l.heading (renamed_attributes l.renamings (heading_view (drop l.attribute-index l.attribute-items))) ≡ fold add_missing [] (renamed_attributes l.renamings l.self)
