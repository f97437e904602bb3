use Rattle.std.proofs.Common.{◌≡◌, ◌∙◌, None, Some, ap}
use Rattle.td_types.specs.model.TypeLists.{declared_at}
use Rattle.td_types.proofs.Tables.{entry_none, entry_some}
use Rattle.td_types.proofs.table.TypeTable.get.Goals as goal

pub returns-in_err-row : goal.returns-in_err-row
returns-in_err-row c =
    let none : None ≡ declared_at c.args.name.now c.args.self.now =
    entry_none c.args.name.now c.self.inside.rows.entries c.self.invariant.named c.in_err-row.ensures.value ∙ ap (declared_at c.args.name.now) c.self.view_is in
    rw (← none) (cc)

pub returns : goal.returns
returns c =
    ap Some c.deref.ensures
    ∙ entry_some c.args.name.now c.self.inside.rows.entries _ c.self.invariant.named c.in_ok-row.ensures.value ∙ ap (declared_at c.args.name.now) c.self.view_is
