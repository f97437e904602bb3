use Rattle.std.proofs.Common.{◌∙◌, ap, subst, sym}
use Rattle.td_types.specs.model.NamedTypes.{is_component, without_declared}
use Rattle.td_types.specs.code.Tables.{IsTable, rows_view}
use Rattle.td_types.proofs.RemovedTypes.{not_true}
use Rattle.td_types.proofs.Removals.{IsTable-without, view_without}
use Rattle.td_types.proofs.table.TypeTable.remove.Goals as goal

pub invariant_of-self : goal.invariant_of-self
invariant_of-self c =
    let unused = ap (is_component c.args.name.now) c.self.view_is
    ∙ not_true (is_component c.args.name.now c.args.self.now) c.requires.unused in
    subst IsTable (sym c.shift_remove.ensures.entries)
    (IsTable-without c.args.name.now c.self.inside.rows.entries unused c.self.invariant)

pub returns : goal.returns
returns c =
    ap rows_view c.shift_remove.ensures.entries ∙ view_without c.args.name.now c.self.inside.rows.entries c.self.invariant.named
    ∙ ap (without_declared c.args.name.now) c.self.view_is
