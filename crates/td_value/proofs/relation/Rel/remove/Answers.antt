use Rattle.std.proofs.Common.{◌≡◌, ◌∙◌, ap, sym, subst, filter}
use Rattle.std.specs.List.{remove}
use Rattle.std.specs.Ordering.{eq_by_cmp}
use Rattle.std.specs.Prelude.{not}
use Rattle.td_value.specs.model.Values.{Relation, Tuple, IsAscendingBody, IsRelation, tuple_cmp, relation_view}
use Rattle.td_value.specs.code.ValueOrder.{tuple_order_total, tuple_order_same}
use Rattle.td_value.proofs.Changes.{relation_ascends, relation_kept}
use Rattle.td_value.proofs.Places.{filter-missing}
use Rattle.td_value.proofs.relation.Rel.remove.Goals as goal

pub place_of-requires : goal.place_of-requires
place_of-requires c =
    subst IsAscendingBody (sym (c.deref-2.ensures.value ∙ ap (λ v. v.items) c.deref.ensures)) (relation_ascends c.self.inside.heading.value c.self.inside.rows.value.items c.self.invariant)

pub returns-in_default-clause-without : goal.returns-in_default-clause-without
returns-in_default-clause-without c =
    let rows = c.deref-2.ensures.value ∙ ap (λ v. v.items) c.deref.ensures in
    let kept = λ (u : Tuple). not (eq_by_cmp tuple_cmp c.args.tuple.now u) in
    let none = subst (λ ts. filter kept ts ≡ ts) rows (filter-missing tuple_cmp tuple_order_total tuple_order_same c.args.tuple.now c.deref-2.result.now c.in_default.ensures.none.1) in
    subst (λ (r : Relation). r ≡ relation_view r.heading (filter kept r.body)) c.self.view_is (ap (relation_view c.self.inside.heading.value) (sym none))

pub invariant_of-self-2 : goal.invariant_of-self-2
invariant_of-self-2 c =
    let rows = c.deref-2.ensures.value ∙ ap (λ v. v.items) c.deref.ensures in
    let kept = λ (u : Tuple). not (eq_by_cmp tuple_cmp c.args.tuple.now u) in
    let taken = c.in_ok-take_at.ensures.taken ∙ subst (λ ts. remove ts c.in-Ok.place ≡ filter kept ts) rows c.in-Ok.ensures.there.2 in
    subst (λ ts. IsRelation (relation_view c.self.inside.heading.value ts)) (sym taken) (relation_kept c.self.inside.heading.value kept c.self.inside.rows.value.items c.self.invariant)
