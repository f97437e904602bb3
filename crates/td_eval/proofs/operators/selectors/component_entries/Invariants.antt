use Rattle.std.proofs.Common.{◌≡◌, ◌++◌, drop}
use Rattle.std.specs.List.{zip}
use Rattle.td_types.specs.model.Types.{attribute_names}
use Rattle.td_types.specs.code.Views.{pairs_view}
use Rattle.td_eval.proofs.operators.selectors.component_entries.Given as goal

abbrev pub invariant-loop-value : goal.invariant-loop-value
invariant-loop-value l =
    l.entries.items ++ zip (attribute_names (pairs_view l.rest)) (drop l.value-index l.values)
    ≡ zip (attribute_names (pairs_view l.components)) l.values
