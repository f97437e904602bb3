use Rattle.std.proofs.Common.{◌≡◌, drop}
use Rattle.std.specs.List.{zip}
use Rattle.std.specs.Rc.{rc_str_bytes}
use Rattle.td_types.specs.model.Types.{attribute_names}
use Rattle.td_types.specs.code.Views.{pairs_view}
use Rattle.td_value.specs.model.Values.{value_at}
use Rattle.td_eval.proofs.operators.operand.component_named.Given as goal

abbrev pub invariant-loop-value : goal.invariant-loop-value
invariant-loop-value l =
    value_at (rc_str_bytes l.name) (zip (attribute_names (pairs_view l.rest)) (drop l.value-index l.values))
    ≡ value_at (rc_str_bytes l.name) (zip (attribute_names (pairs_view l.components)) l.values)
