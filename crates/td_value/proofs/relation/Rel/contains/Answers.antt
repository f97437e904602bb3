use Rattle.std.proofs.Common.{◌≡◌, ◌∙◌, ap, sym, subst, ℕ, List, Result, Ok, Err, IfOk, IfErr}
use Rattle.std.specs.Prelude.{is_ok}
use Rattle.td_value.specs.code.Places.{IsPlaceFor, IsPlaceOf}
use Rattle.td_value.specs.model.Sets.{has}
use Rattle.td_value.specs.model.Values.{Tuple, Relation, IsAscendingBody, tuple_cmp}
use Rattle.td_value.proofs.Changes.{relation_ascends}
use Rattle.td_value.proofs.relation.Rel.contains.Goals as goal

pub place_of-requires : goal.place_of-requires
place_of-requires c =
    subst IsAscendingBody (sym (c.deref-2.ensures.value ∙ ap (λ v. v.items) c.deref.ensures)) (relation_ascends c.self.inside.heading.value c.self.inside.rows.value.items c.self.invariant)

found : (t : Tuple) (ts : List Tuple) (r : Result ℕ ℕ) → IfOk r (IsPlaceOf t ts) → IfErr r (IsPlaceFor t ts) → is_ok r ≡ has tuple_cmp t ts
found t ts (Ok i) there none = sym there.1
found t ts (Err i) there none = sym none.1

pub returns : goal.returns
returns c =
    let rows = c.deref-2.ensures.value ∙ ap (λ v. v.items) c.deref.ensures ∙ ap (λ (r : Relation). r.body) c.self.view_is in
    c.is_ok.ensures.value ∙ found c.args.tuple.now c.deref-2.result.now c.place_of.result c.place_of.ensures.there c.place_of.ensures.none ∙ ap (has tuple_cmp c.args.tuple.now) rows
