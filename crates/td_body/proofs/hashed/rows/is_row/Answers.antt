use Rattle.std.proofs.Common.{◌∙◌, ap, get_or, sym}
use Rattle.td_value.specs.model.Values.{tuple_names}
use Rattle.td_body.proofs.Parts.{one_names}
use Rattle.td_body.proofs.hashed.rows.is_row.Goals as goal

pub compare_values-requires : goal.compare_values-requires
compare_values-requires c =
    let rows = c.args.rows.now in
    let row = c.row_at-row.result.now in
    one_names rows.heading c.args.tuple.now (get_or rows.rows c.args.number row) c.requires.headed (c.count-count.ensures.headed c.args.number row c.requires.within)
    ∙ ap tuple_names (sym c.row_at-row.ensures)
