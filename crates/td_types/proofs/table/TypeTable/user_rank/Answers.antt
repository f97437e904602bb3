use Rattle.std.proofs.Common.{◌≡◌, ◌∙◌, None, ap}
use Rattle.td_types.specs.code.Tables.{kept_rank, rows_view}
use Rattle.td_types.specs.model.TypeLists.{user_ranks}
use Rattle.td_types.proofs.Tables.{rank_missing, rank_some}
use Rattle.td_types.proofs.table.TypeTable.user_rank.Goals as goal

pub returns-in_err-row : goal.returns-in_err-row
returns-in_err-row c =
    let none : None ≡ kept_rank (user_ranks c.args.self.now c.args.name.now) =
    rank_missing c.args.name.now c.self.inside.rows.entries c.self.invariant.named c.in_err-row.ensures.value
    ∙ ap (λ ds. kept_rank (user_ranks ds c.args.name.now)) c.self.view_is in
    rw (← none) (cc)

pub returns : goal.returns
returns c =
    rank_some (user_ranks (rows_view c.self.inside.rows.entries)) c.args.name.now c.self.inside.rows.entries _ c.self.invariant.ranked c.in_ok-row.ensures.value
    ∙ ap (λ ds. kept_rank (user_ranks ds c.args.name.now)) c.self.view_is
