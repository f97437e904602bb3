use Rattle.std.proofs.Common.{◌≡◌, ◌∙◌, ap, sym, subst, List, Result, Ok, Err, IfOk}
use Rattle.std.specs.List.{All}
use Rattle.td_types.specs.model.Types.{Heading}
use Rattle.td_value.specs.model.Sets.{set_of}
use Rattle.td_value.specs.model.Values.{Tuple, HaveSameMembers, HaveSameNames, IsAscendingBody, IsTupleOf, Relation, tuple_cmp, relation_view}
use Rattle.td_value.specs.code.ValueOrder.{tuple_order_total, tuple_order_same}
use Rattle.td_value.proofs.Members.{set_headed, set_members}
use Rattle.td_value.proofs.Rows.{HaveSameNames-from}
use Rattle.td_value.proofs.SetLaws.{set_of-ascends}
use Rattle.td_value.proofs.relation.Rel.new.Goals as goal

-- a relation of the set of the tuples
of_set : {E : Type 0} (heading : Heading) (given made : List Tuple) (r : Result Relation E) → made ≡ set_of tuple_cmp given → IfOk r (λ s. s ≡ relation_view heading made)
    → record { value : IfOk r (λ s. s ≡ relation_view heading (set_of tuple_cmp given)); members : IfOk r (λ s. HaveSameMembers s.body given) }
of_set heading given made (Ok s) e is =
    let value = is ∙ ap (relation_view heading) e in
    record { value = value; members = subst (λ ts. HaveSameMembers ts given) (sym (ap (λ (r : Relation). r.body) value)) (set_members given) }
of_set heading given made (Err e') e is = record { value = tt; members = tt }

pub in_order-requires : goal.in_order-requires
in_order-requires c = HaveSameNames-from c.args.heading c.args.rows.items c.requires

pub gathered-requires : goal.gathered-requires
gathered-requires c =
    subst HaveSameNames (sym c.in_order.ensures) (HaveSameNames-from c.args.heading (set_of tuple_cmp c.args.rows.items) (set_headed c.args.heading c.args.rows.items c.requires))

pub of_ascending-requires-clause-headed : goal.of_ascending-requires-clause-headed
of_ascending-requires-clause-headed c =
    subst (All (IsTupleOf c.args.heading)) (sym (c.in_ok-rows.ensures ∙ c.in_order.ensures)) (set_headed c.args.heading c.args.rows.items c.requires)

pub of_ascending-requires-clause-ascending : goal.of_ascending-requires-clause-ascending
of_ascending-requires-clause-ascending c =
    subst IsAscendingBody (sym (c.in_ok-rows.ensures ∙ c.in_order.ensures)) (set_of-ascends tuple_cmp tuple_order_total tuple_order_same c.args.rows.items)

pub returns : goal.returns
returns c =
    of_set c.args.heading c.args.rows.items _ c.of_ascending.result (c.in_ok-rows.ensures ∙ c.in_order.ensures) c.of_ascending.ensures
