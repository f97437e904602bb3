use Rattle.std.proofs.Common.{◌≡◌, ◌++◌, drop}
use Rattle.std.specs.Prelude.{filter, not}
use Rattle.td_types.specs.model.Types.{same_name}
use Rattle.td_types.specs.code.Views.{heading_view}
use Rattle.td_types.proofs.heading.Heading.without.Given as goal

abbrev pub invariant-loop-attribute : goal.invariant-loop-attribute
invariant-loop-attribute l = heading_view l.attributes.items ++ filter (λ a. not (same_name a.0 l.name)) (heading_view (drop l.attribute-index l.attribute-items)) ≡ filter (λ a. not (same_name a.0 l.name)) l.self
