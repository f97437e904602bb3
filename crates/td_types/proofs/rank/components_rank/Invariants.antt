use Rattle.std.proofs.Common.{◌≡◌, Some, drop}
use Rattle.td_types.specs.code.Tables.{kept_rank}
use Rattle.td_types.specs.model.TypeLists.{greatest_rank, user_ranks}
use Rattle.td_types.specs.model.Types.{pack}
use Rattle.td_types.specs.code.Views.{pairs_view}
use Rattle.td_types.proofs.KeptRanks.{kept_greater}
use Rattle.td_types.proofs.rank.components_rank.Given as goal

abbrev pub invariant-loop-ty : goal.invariant-loop-ty
invariant-loop-ty l =
    kept_greater (Some l.greatest) (kept_rank (greatest_rank (user_ranks l.table) (pack (pairs_view (drop l.ty-index l.components)))))
    ≡ kept_rank (greatest_rank (user_ranks l.table) (pack (pairs_view l.components)))
