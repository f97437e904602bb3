use Rattle.std.proofs.Common.{◌∙◌, sym}
use Rattle.td_value.proofs.Rows.{tuple_order-by_values}
use Rattle.td_value.proofs.tuple.Tuple.compare_values.Goals as goal

pub returns : goal.returns
returns c = c.compare_by_values.ensures ∙ sym (tuple_order-by_values c.args.self.now c.args.other.now c.requires)
