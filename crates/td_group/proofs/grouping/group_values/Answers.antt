use Rattle.std.proofs.Common.{◌≡◌, ◌∙◌, List, ap, filter, length, map, refl, subst, sym}
use Rattle.std.specs.List.{All, flat_map}
use Rattle.std.proofs.lemmas.List.{length-map}
use Rattle.std.proofs.lemmas.List.Sorted.{IsPermutation-refl}
use Rattle.td_types.specs.model.Types.{attribute_names}
use Rattle.td_value.specs.model.Agreement.{agree_on}
use Rattle.td_value.specs.model.Values.{IsTupleOf, Tuple, Val, relation_of, relation_value}
use Rattle.td_value.specs.code.Views.{values_of}
use Rattle.td_algebra.specs.code.Lookups.{partners_in}
use Rattle.td_algebra.specs.code.Layouts.{AreInRange, placed_tuple}
use Rattle.td_algebra.proofs.Keys.{if_ok}
use Rattle.td_algebra.proofs.OnNames.{rows_within, same_places}
use Rattle.td_group.proofs.GroupParts.{all_mapped, by_agreement, grouped_rows}
use Rattle.td_group.proofs.grouping.group_values.Goals as goal

pub new-requires : goal.new-requires
new-requires c =
    let h = c.args.rel.now.heading in
    let own = same_places c.args.rest.now c.args.rest.now c.heading.result.now h c.in_ok-own_places.own_places.items c.deref.result.now
    refl c.heading.ensures c.deref.ensures.value c.in_ok-own_places.ensures in
    rows_within (attribute_names c.args.rest.now) h c.deref.result.now c.rows.result.now own (subst (All (IsTupleOf h)) (sym c.rows.ensures.rows) c.rows.ensures.headed)

pub rows_by_group-requires : goal.rows_by_group-requires
rows_by_group-requires c =
    let g = c.args.keys.now.heading in
    let places = same_places c.args.rest.now c.args.rest.now c.heading-2.result.now g c.in_ok-places.places.items c.deref-2.result.now
    refl c.heading-2.ensures c.deref-2.ensures.value c.in_ok-places.ensures in
    rows_within (attribute_names c.args.rest.now) g c.deref-2.result.now c.rows-2.result.now places (subst (All (IsTupleOf g)) (sym c.rows-2.ensures.rows) c.rows-2.ensures.headed)

pub wrapped_parts-requires : goal.wrapped_parts-requires
wrapped_parts-requires c =
    let Q : Tuple → _ = λ t. AreInRange c.args.layout.now (values_of t) in
    let own = ap (λ l. l.1) c.in_ok-lookup.ensures ∙ c.rows.ensures.rows in
    subst (All Q) (sym (c.deref-3.ensures.value ∙ c.in_ok-rows.ensures))
    (grouped_rows Q c.in_ok-lookup.lookup c.deref-2.result.now c.rows-2.result.now (subst (All Q) (sym own) c.requires.range))

pub values_by_group-requires-clause-within : goal.values_by_group-requires-clause-within
values_by_group-requires-clause-within c =
    let g = c.args.keys.now.heading in
    let places = same_places c.args.rest.now c.args.rest.now c.heading-2.result.now g c.in_ok-places.places.items c.deref-5.result.now
    refl c.heading-2.ensures c.deref-5.ensures.value c.in_ok-places.ensures in
    rows_within (attribute_names c.args.rest.now) g c.deref-5.result.now c.rows-4.result.now places (subst (All (IsTupleOf g)) (sym c.rows-4.ensures.rows) c.rows-4.ensures.headed)

pub values_by_group-requires-clause-headed : goal.values_by_group-requires-clause-headed
values_by_group-requires-clause-headed c =
    let place : Tuple → Tuple = λ t. placed_tuple c.args.layout.now (values_of t) in
    let Q : Tuple → _ = λ t. IsTupleOf c.args.like.now.heading (place t) in
    let own = ap (λ l. l.1) c.in_ok-lookup.ensures ∙ c.rows.ensures.rows in
    let made = c.deref-4.ensures.value ∙ c.in_ok-parts.ensures c.args.layout.now (IsPermutation-refl c.args.layout.now) ∙ ap (map place) (c.deref-3.ensures.value ∙ c.in_ok-rows.ensures) in
    subst (All (IsTupleOf c.args.like.now.heading)) (sym made)
    (all_mapped (IsTupleOf c.args.like.now.heading) place _
    (grouped_rows Q c.in_ok-lookup.lookup c.deref-2.result.now c.rows-2.result.now (subst (All Q) (sym own) c.requires.headed)))

pub values_by_group-requires-clause-long : goal.values_by_group-requires-clause-long
values_by_group-requires-clause-long c =
    let place : Tuple → Tuple = λ t. placed_tuple c.args.layout.now (values_of t) in
    let made : c.deref-4.result.now ≡ map place (flat_map (partners_in c.in_ok-lookup.lookup c.deref-5.result.now) c.rows-4.result.now) =
    c.deref-4.ensures.value ∙ c.in_ok-parts.ensures c.args.layout.now (IsPermutation-refl c.args.layout.now) ∙ ap (map place) (c.deref-3.ensures.value ∙ c.in_ok-rows.ensures)
    ∙ (λ i. map place (flat_map (partners_in c.in_ok-lookup.lookup ((c.deref-2.ensures.value ∙ sym c.deref-5.ensures.value) i)) ((c.rows-2.ensures.rows ∙ sym c.rows-4.ensures.rows) i))) in
    ap length made ∙ length-map _ place

pub returns : goal.returns
returns c =
    let g = c.args.keys.now.heading in
    let h = c.args.rel.now.heading in
    let own = same_places c.args.rest.now c.args.rest.now c.heading.result.now h c.in_ok-own_places.own_places.items c.deref.result.now
    refl c.heading.ensures c.deref.ensures.value c.in_ok-own_places.ensures in
    let places = same_places c.args.rest.now c.args.rest.now c.heading-2.result.now g c.in_ok-places.places.items c.deref-5.result.now
    refl c.heading-2.ensures c.deref-5.ensures.value c.in_ok-places.ensures in
    let place : Tuple → Tuple = λ t. placed_tuple c.args.layout.now (values_of t) in
    let made : c.deref-4.result.now ≡ map place (flat_map (partners_in c.in_ok-lookup.lookup c.deref-5.result.now) c.rows-4.result.now) =
    c.deref-4.ensures.value ∙ c.in_ok-parts.ensures c.args.layout.now (IsPermutation-refl c.args.layout.now) ∙ ap (map place) (c.deref-3.ensures.value ∙ c.in_ok-rows.ensures)
    ∙ (λ i. map place (flat_map (partners_in c.in_ok-lookup.lookup ((c.deref-2.ensures.value ∙ sym c.deref-5.ensures.value) i)) ((c.rows-2.ensures.rows ∙ sym c.rows-4.ensures.rows) i))) in
    let lookup = c.in_ok-lookup.ensures ∙ ap (λ ts. (c.deref.result.now, ts)) c.rows.ensures.rows in
    let value : List Tuple → Val = λ ts. relation_value (relation_of c.args.like.now.heading (map place ts)) in
    if_ok (λ values. values.items ≡ map (λ t. value (partners_in c.in_ok-lookup.lookup c.deref-5.result.now t)) c.rows-4.result.now)
    (λ values. values.items ≡ map (λ w. value (filter (agree_on (attribute_names c.args.rest.now) w) c.args.rel.now.body)) c.args.keys.now.body) c.values_by_group.result
    (λ values e. e ∙ (λ i. map (λ t. value (partners_in (lookup i) c.deref-5.result.now t)) (c.rows-4.ensures.rows i))
    ∙ by_agreement value (attribute_names c.args.rest.now) g h c.args.keys.now.body c.args.rel.now.body c.deref-5.result.now c.deref.result.now
    c.requires.keys c.requires.rel c.rows-4.ensures.headed c.rows.ensures.headed places own)
    (c.values_by_group.ensures place made)
