use Rattle.td_types.specs.model.Types.{pack, tuple}
use Rattle.td_types.specs.code.Views.{pairs_view}
use Rattle.td_types.proofs.rank.rank_of_components.Goals as goal

pub returns : goal.returns
returns c =
    c.limited_rank.ensures c.args.table.now (tuple (pack (pairs_view c.args.components.now))) c.components_rank.ensures
