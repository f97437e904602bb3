use Rattle.std.proofs.Common.{map, take}
use Rattle.td_eval.specs.model.AggregateValues.{aggregate_of}
use Rattle.td_eval.specs.model.OperatorValues.{value_of_type}
use Rattle.td_tree.specs.code.Gatherings.{IsGathered}
use Rattle.td_tree.specs.model.Outcomes.{with_value}
use Rattle.td_types.specs.code.Views.{type_view}
use Rattle.td_eval.proofs.operators.summaries.total_values.Given as goal

abbrev pub invariant-loop-group : goal.invariant-loop-group
invariant-loop-group l =
    IsGathered l.causes (map (λ v. v) l.values.items)
    (map (λ vs. with_value (aggregate_of l.fn.asked vs.items) (value_of_type (type_view l.fn.ty))) (take l.group-index l.groups))
