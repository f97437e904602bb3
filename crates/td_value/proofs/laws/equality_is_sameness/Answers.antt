use Rattle.td_value.specs.code.ValueOrder.{relation_Decides, tuple_Decides, value_Decides}
use Rattle.td_value.proofs.laws.equality_is_sameness.Goals as goal

pub returns : goal.returns
returns c = (value_Decides, tuple_Decides, relation_Decides)
