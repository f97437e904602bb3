use Rattle.std.proofs.Common.{◌∙◌}
use Rattle.td_value.specs.code.Views.{values_of}
use Rattle.td_value.proofs.Rows.{parts_order-lists, tuple_order-by_values}
use Rattle.td_value.proofs.laws.tuples_compare_by_values.Goals as goal

pub returns : goal.returns
returns c = λ s t h. tuple_order-by_values s t h ∙ parts_order-lists (values_of s) (values_of t)
