use Rattle.std.proofs.Common.{◌∙◌, ap, cond, Some}
use Rattle.std.specs.HashMap.{get}
use Rattle.std.specs.Ordering.{eq_by_cmp}
use Rattle.td_value.specs.model.Values.{value_cmp}
use Rattle.td_value.specs.code.ValueOrder.{order_total, value_Decides}
use Rattle.td_group.proofs.Keyed.{grown_by_item}
use Rattle.td_group.proofs.closure.put_successor.Goals as goal

pub returns : goal.returns
returns c =
    grown_by_item value_cmp order_total value_Decides c.args.table.now c.remove.new.self c.insert.new.self c.args.from.now c.args.to c.remove.result c.new.result
    c.unwrap_or-successors.result c.push.new.self c.remove.ensures.value c.new.ensures.items c.unwrap_or-successors.ensures c.in_ok-push.ensures.items
    c.remove.ensures.updates.0 (λ q. c.in_ok-insert.ensures.updates.0 q ∙ ap (λ k. cond (eq_by_cmp value_cmp k q) (Some c.push.new.self) (get (eq_by_cmp value_cmp) c.remove.new.self q)) c.in_ok-try_clone.ensures)
