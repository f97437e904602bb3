use Rattle.std.proofs.Common.{◌∙◌, sym, subst}
use Rattle.std.specs.List.{All}
use Rattle.td_value.specs.model.Sets.{set_of}
use Rattle.td_value.specs.model.Values.{HaveSameNames, IsAscendingBody, IsTupleOf, tuple_cmp}
use Rattle.td_value.specs.code.ValueOrder.{tuple_order_total, tuple_order_same}
use Rattle.td_value.proofs.Members.{set_headed}
use Rattle.td_value.proofs.Rows.{HaveSameNames-from}
use Rattle.td_value.proofs.SetLaws.{set_of-ascends}
use Rattle.td_value.proofs.relation.Rel.with_set_of.Goals as goal

pub in_order-requires : goal.in_order-requires
in_order-requires c = HaveSameNames-from c.args.self.now.heading c.args.rows.items c.requires

pub gathered-requires : goal.gathered-requires
gathered-requires c =
    subst HaveSameNames (sym c.in_order.ensures)
    (HaveSameNames-from c.args.self.now.heading (set_of tuple_cmp c.args.rows.items) (set_headed c.args.self.now.heading c.args.rows.items c.requires))

pub with_body-requires-clause-headed : goal.with_body-requires-clause-headed
with_body-requires-clause-headed c =
    subst (All (IsTupleOf c.args.self.now.heading)) (sym (c.in_ok-rows.ensures ∙ c.in_order.ensures)) (set_headed c.args.self.now.heading c.args.rows.items c.requires)

pub with_body-requires-clause-ascending : goal.with_body-requires-clause-ascending
with_body-requires-clause-ascending c =
    subst IsAscendingBody (sym (c.in_ok-rows.ensures ∙ c.in_order.ensures)) (set_of-ascends tuple_cmp tuple_order_total tuple_order_same c.args.rows.items)
