use Rattle.std.proofs.Common.{◌∙◌, ap, sym, length}
use Rattle.td_value.proofs.Placed.{rows_length}
use Rattle.td_value.specs.code.Blocks.{Making}
use Rattle.td_value.proofs.tuples.Tuples.len.Goals as goal

pub returns : goal.returns
returns c =
    let a = c.self.inside in
    sym (rows_length a.names.value.items a.count a.cells.items) ∙ ap (λ (m : Making). length m.tuples) c.self.view_is
