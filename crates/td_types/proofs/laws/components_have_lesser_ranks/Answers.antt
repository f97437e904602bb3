use Rattle.td_types.proofs.Ranks.{components_rank_below}
use Rattle.td_types.proofs.laws.components_have_lesser_ranks.Goals as goal

pub returns : goal.returns
returns c = components_rank_below
