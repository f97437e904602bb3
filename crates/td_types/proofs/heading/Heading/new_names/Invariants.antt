use Rattle.std.proofs.Common.{◌≡◌, ◌++◌, drop}
use Rattle.td_types.specs.model.Headings.{new_names}
use Rattle.td_types.specs.code.Views.{heading_view}
use Rattle.td_types.proofs.heading.Heading.new_names.Given as goal

abbrev pub invariant-loop-attribute : goal.invariant-loop-attribute
invariant-loop-attribute l = l.names.items ++ new_names l.renamings (heading_view (drop l.attribute-index l.attribute-items)) ≡ new_names l.renamings l.self
