use Rattle.td_eval.proofs.law_lemmas.AggregateOrder.{tuple_order_does_not_count}
use Rattle.td_eval.proofs.laws.tuple_order_does_not_count.Goals as goal

pub returns : goal.returns
returns c = tuple_order_does_not_count
