use Rattle.td_types.proofs.Ranks.{known_have_ranks}
use Rattle.td_types.proofs.laws.known_types_have_ranks.Goals as goal

pub returns : goal.returns
returns c = known_have_ranks
