use Rattle.std.proofs.Common.{◌≡◌, ◌∙◌, ap, sym, subst}
use Rattle.std.specs.List.{insert}
use Rattle.td_value.specs.model.Sets.{put_in}
use Rattle.td_value.specs.model.Values.{Relation, IsAscendingBody, IsRelation, IsTupleOf, tuple_cmp, relation_view}
use Rattle.td_value.specs.code.ValueOrder.{tuple_order_total, tuple_order_same}
use Rattle.td_value.proofs.Changes.{relation_ascends, relation_with}
use Rattle.td_value.proofs.Places.{put_in-there}
use Rattle.td_value.proofs.relation.Rel.insert.Goals as goal

pub place_of-requires : goal.place_of-requires
place_of-requires c =
    subst IsAscendingBody (sym (c.deref-2.ensures.value ∙ ap (λ v. v.items) c.deref.ensures)) (relation_ascends c.self.inside.heading.value c.self.inside.rows.value.items c.self.invariant)

pub returns-in_default-clause-with : goal.returns-in_default-clause-with
returns-in_default-clause-with c =
    let up = relation_ascends c.self.inside.heading.value c.self.inside.rows.value.items c.self.invariant in
    let rows = c.deref-2.ensures.value ∙ ap (λ v. v.items) c.deref.ensures in
    let there = subst (λ ts. put_in tuple_cmp c.args.tuple ts ≡ ts) rows (put_in-there tuple_cmp tuple_order_total tuple_order_same c.args.tuple c.deref-2.result.now (subst IsAscendingBody (sym rows) up) c.in_default.ensures.there.1) in
    subst (λ (r : Relation). r ≡ relation_view r.heading (put_in tuple_cmp c.args.tuple r.body)) c.self.view_is (ap (relation_view c.self.inside.heading.value) (sym there))

pub invariant_of-self-2 : goal.invariant_of-self-2
invariant_of-self-2 c =
    let rows = c.deref-2.ensures.value ∙ ap (λ v. v.items) c.deref.ensures in
    let heading = subst (λ (r : Relation). IsTupleOf r.heading c.args.tuple) (sym c.self.view_is) c.requires in
    let put = c.in_ok-put_at.ensures.put ∙ subst (λ ts. insert ts c.in-Err.place c.args.tuple ≡ put_in tuple_cmp c.args.tuple ts) rows c.in-Err.ensures.none.2 in
    subst (λ ts. IsRelation (relation_view c.self.inside.heading.value ts)) (sym put) (relation_with c.self.inside.heading.value c.args.tuple c.self.inside.rows.value.items heading c.self.invariant)
