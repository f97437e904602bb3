use Rattle.std.proofs.Common.{◌∙◌, ap}
use Rattle.std.proofs.lemmas.Cmp.{eq_by_cmp_equiv}
use Rattle.std.proofs.lemmas.List.{take_all}
use Rattle.std.specs.Ordering.{eq_by_cmp}
use Rattle.td_value.specs.model.Sets.{has}
use Rattle.td_value.specs.model.Values.{tuple_cmp}
use Rattle.td_value.specs.code.ValueOrder.{tuple_order_total}
use Rattle.td_plan.proofs.Memberships.{one_hashed}
use Rattle.td_plan.proofs.running.memberships.hashed_tuples.Goals as goal

pub loop-row-preserved : goal.loop-row-preserved
loop-row-preserved c =
    one_hashed (eq_by_cmp tuple_cmp) (eq_by_cmp_equiv tuple_order_total).symm c.loop-row.set c.insert.new.self c.in_ok-try_clone.field-0 c.args.rows.now
    c.loop-row.row-index c.row-item.result c.in_ok-try_clone.ensures
    c.loop-row-test.true c.row-item.is c.in_ok-insert.ensures.updates.0 c.loop-row.invariant

pub returns : goal.returns
returns c = λ t. c.loop-row.invariant t ∙ ap (has tuple_cmp t) (take_all c.loop-row.row-index c.args.rows.now c.loop-row-test.false)
