use Rattle.std.proofs.Common.{refl, sym, subst}
use Rattle.td_value.specs.model.Values.{HaveSameNames, IsAscendingBody, tuple_cmp}
use Rattle.td_value.specs.code.ValueOrder.{tuple_order_total, tuple_order_same}
use Rattle.td_value.proofs.SetLaws.{is_set_of}
use Rattle.td_value.proofs.relation.in_order.Goals as goal

pub ascend-requires : goal.ascend-requires
ascend-requires c = subst HaveSameNames (sym c.deref.ensures.value) c.requires

pub returns-then-ascend : goal.returns-then-ascend
returns-then-ascend c =
    let rows = c.args.rows.items in
    is_set_of tuple_cmp tuple_order_total tuple_order_same rows rows (subst IsAscendingBody c.deref.ensures.value (c.if-ascend.ensures refl)) (λ t. refl)
