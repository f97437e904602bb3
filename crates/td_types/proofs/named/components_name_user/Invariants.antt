use Rattle.std.proofs.Common.{◌≡◌, drop}
use Rattle.td_types.specs.model.NamedTypes.{any_names_user}
use Rattle.td_types.specs.model.Types.{pack}
use Rattle.td_types.specs.code.Views.{pairs_view}
use Rattle.td_types.proofs.named.components_name_user.Given as goal

abbrev pub invariant-loop-ty : goal.invariant-loop-ty
invariant-loop-ty l =
    any_names_user l.name (pack (pairs_view (drop l.ty-index l.components))) ≡ any_names_user l.name (pack (pairs_view l.components))
