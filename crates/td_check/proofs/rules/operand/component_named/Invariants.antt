use Rattle.std.proofs.Common.{◌≡◌, drop}
use Rattle.std.specs.Rc.{rc_str_bytes}
use Rattle.td_types.specs.model.Types.{type_at}
use Rattle.td_types.specs.code.Views.{pairs_view}
use Rattle.td_check.proofs.rules.operand.component_named.Given as goal

abbrev pub invariant-loop-component : goal.invariant-loop-component
invariant-loop-component l =
    type_at (rc_str_bytes l.name) (pairs_view (drop l.component-index l.components))
    ≡ type_at (rc_str_bytes l.name) (pairs_view l.components)
