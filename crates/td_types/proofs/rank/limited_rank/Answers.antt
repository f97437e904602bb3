use Rattle.std.proofs.Common.{◌∙◌, sym}
use Rattle.td_types.proofs.KeptRanks.{rank_none}
use Rattle.td_types.proofs.rank.limited_rank.Goals as goal

pub returns-in-None : goal.returns-in-None
returns-in-None c ds t kept = rank_none ds t (sym kept ∙ c.in-None.is)
