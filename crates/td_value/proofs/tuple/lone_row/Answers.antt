use Rattle.std.proofs.Common.{◌∙◌}
use Rattle.td_value.proofs.Made.{only_row}
use Rattle.td_value.proofs.tuple.lone_row.Goals as goal

pub invariant_of-result : goal.invariant_of-result
invariant_of-result c =
    rw c.in_ok-block.ensures.ok (only_row c.args.names.value.items c.args.values.items c.len-width.result (c.len-width.ensures ∙ c.args.values.ok.0) c.requires.same c.requires.valid)
