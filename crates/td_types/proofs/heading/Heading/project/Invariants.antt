use Rattle.std.proofs.Common.{◌≡◌, ◌++◌, drop}
use Rattle.std.specs.Prelude.{filter}
use Rattle.td_types.specs.model.Headings.{has_name}
use Rattle.td_types.specs.code.Views.{heading_view}
use Rattle.td_types.proofs.heading.Heading.project.Given as goal

abbrev pub invariant-loop-attribute : goal.invariant-loop-attribute
invariant-loop-attribute l = heading_view l.attributes.items ++ filter (λ a. has_name a.0 l.names) (heading_view (drop l.attribute-index l.attribute-items)) ≡ filter (λ a. has_name a.0 l.names) l.self
