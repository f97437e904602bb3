use Rattle.std.proofs.Common.{◌≡◌, drop}
use Rattle.td_types.specs.model.NamedTypes.{any_names_user}
use Rattle.td_types.specs.model.Types.{pack}
use Rattle.td_types.specs.code.Views.{heading_view}
use Rattle.td_types.proofs.named.+named.Given as goal

abbrev pub invariant-heading_names_user-loop-attribute : goal.invariant-heading_names_user-loop-attribute
invariant-heading_names_user-loop-attribute l =
    any_names_user l.name (pack (heading_view (drop l.attribute-index l.attribute-items))) ≡ any_names_user l.name (pack l.heading)
