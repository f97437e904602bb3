use Rattle.td_types.proofs.Meanings.{means_type}
use Rattle.td_types.proofs.laws.type_trees_mean_their_types.Goals as goal

pub returns : goal.returns
returns c = means_type
