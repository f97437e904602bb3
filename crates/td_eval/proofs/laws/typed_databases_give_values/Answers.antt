use Rattle.td_eval.proofs.law_lemmas.ValuedWorlds.{other_relations_give_values, typed_databases_give_values}
use Rattle.td_eval.proofs.laws.typed_databases_give_values.Goals as goal

pub returns-clause-typed : goal.returns-clause-typed
returns-clause-typed c = typed_databases_give_values

pub returns-clause-other : goal.returns-clause-other
returns-clause-other c = other_relations_give_values
