use Rattle.std.proofs.Common.{◌≡◌, Some, drop}
use Rattle.td_types.specs.code.Tables.{kept_rank}
use Rattle.td_types.specs.model.TypeLists.{greatest_rank, user_ranks}
use Rattle.td_types.specs.model.Types.{pack}
use Rattle.td_types.specs.code.Views.{heading_view}
use Rattle.td_types.proofs.KeptRanks.{kept_greater}
use Rattle.td_types.proofs.rank.+rank.Given as goal

abbrev pub invariant-heading_rank-loop-attribute : goal.invariant-heading_rank-loop-attribute
invariant-heading_rank-loop-attribute l =
    kept_greater (Some l.greatest) (kept_rank (greatest_rank (user_ranks l.table) (pack (heading_view (drop l.attribute-index l.attribute-items)))))
    ≡ kept_rank (greatest_rank (user_ranks l.table) (pack l.heading))
