use Rattle.std.proofs.Common.{◌↔◌, IsTrue, ap, subst, sym, ◌∙◌}
use Rattle.std.specs.Prelude.{is_some}
use Rattle.td_types.specs.model.TypeLists.{AreKnown}
use Rattle.td_types.specs.model.Types.{pack, tuple}
use Rattle.td_types.specs.code.Views.{pairs_view}
use Rattle.td_types.proofs.KeptRanks.{known_where_kept}
use Rattle.td_types.proofs.table.TypeTable.knows_all.Goals as goal

pub returns : goal.returns
returns c =
    subst (λ b. IsTrue b ↔ AreKnown c.args.self.now (pack (pairs_view c.args.components.now))) (sym (c.is_some.ensures ∙ ap is_some c.components_rank.ensures))
    (known_where_kept c.args.self.now (tuple (pack (pairs_view c.args.components.now))) c.reveal.ensures)
