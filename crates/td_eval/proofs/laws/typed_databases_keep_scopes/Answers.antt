use Rattle.td_eval.proofs.law_lemmas.OtherRelations.{other_relations_keep_scopes}
use Rattle.td_eval.proofs.law_lemmas.TypedDatabases.{typed_databases_keep_scopes}
use Rattle.td_eval.proofs.laws.typed_databases_keep_scopes.Goals as goal

pub returns-clause-typed : goal.returns-clause-typed
returns-clause-typed c = typed_databases_keep_scopes

pub returns-clause-other : goal.returns-clause-other
returns-clause-other c = other_relations_keep_scopes
