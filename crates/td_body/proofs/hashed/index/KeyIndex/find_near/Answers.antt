use Rattle.std.proofs.Common.{◌∙◌, get_or, sym, true}
use Rattle.td_value.specs.code.ValueOrder.{tuple_Decides}
use Rattle.td_body.specs.code.Numbered.{tuple_eq}
use Rattle.td_body.proofs.Walks.{both_true}
use Rattle.td_body.proofs.hashed.index.KeyIndex.find_near.Goals as goal

pub returns-then-is_row-clause-same : goal.returns-then-is_row-clause-same
returns-then-is_row-clause-same c =
    let row = c.args.tuple.now in
    let found = get_or c.args.rows.now.rows c.loop-number.number row in
    let passes = both_true (get_or c.args.rows.now.gone c.loop-number.number true) (tuple_eq row found) (sym c.is_row.ensures ∙ c.if-is_row.true) in
    sym ((tuple_Decides row found).0 passes.1)
