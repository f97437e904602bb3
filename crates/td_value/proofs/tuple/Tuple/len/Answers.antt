use Rattle.std.proofs.Common.{◌∙◌, ap, sym, length}
use Rattle.td_value.proofs.Made.{row_length}
use Rattle.td_value.proofs.tuple.Tuple.len.Goals as goal

pub returns : goal.returns
returns c =
    let b = c.self.inside.block.value in
    ap (λ x. x.width) c.deref.ensures ∙ c.self.invariant.width_is ∙ sym (row_length b.names.value.items b.width c.self.inside.start b.cells.items c.self.invariant)
    ∙ ap length c.self.view_is
