use Rattle.td_eval.proofs.code_lemmas.TypedTrees.{values_keep_types}
use Rattle.td_eval.proofs.laws.values_keep_types.Goals as goal

pub returns : goal.returns
returns c = values_keep_types
