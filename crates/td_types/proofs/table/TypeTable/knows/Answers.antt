use Rattle.std.proofs.Common.{◌↔◌, IsTrue, ap, subst, sym, ◌∙◌}
use Rattle.std.specs.Prelude.{is_some}
use Rattle.td_types.specs.model.TypeLists.{IsKnown}
use Rattle.td_types.specs.code.Views.{type_view}
use Rattle.td_types.proofs.KeptRanks.{known_where_kept}
use Rattle.td_types.proofs.table.TypeTable.knows.Goals as goal

pub returns : goal.returns
returns c =
    subst (λ b. IsTrue b ↔ IsKnown c.args.self.now (type_view c.args.ty.now)) (sym (c.is_some.ensures ∙ ap is_some c.type_rank.ensures))
    (known_where_kept c.args.self.now (type_view c.args.ty.now) c.reveal.ensures)
