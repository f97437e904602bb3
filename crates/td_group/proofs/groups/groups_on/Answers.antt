use Rattle.std.proofs.Common.{◌∙◌, ◌+◌, ◌++◌, ◌∷◌, [], ap, refl, subst, sym, take}
use Rattle.std.specs.List.{All}
use Rattle.td_types.specs.model.Types.{attribute_names}
use Rattle.td_algebra.specs.code.Lookups.{partners_in}
use Rattle.td_algebra.specs.model.Operators.{restriction}
use Rattle.td_algebra.proofs.OnNames.{found_on, places_within, row_headed, rows_within, same_places}
use Rattle.td_value.specs.model.Agreement.{agree_on}
use Rattle.td_value.specs.model.Values.{IsTupleOf, relation_view}
use Rattle.td_group.specs.model.Groups.{groups_on}
use Rattle.td_group.proofs.Tables.{map_more}
use Rattle.td_group.proofs.groups.groups_on.Goals as goal

pub new-requires : goal.new-requires
new-requires c =
    let own = same_places c.args.common.now c.args.common.now c.heading.result.now c.args.rel.now.heading c.in_ok-own_places.own_places.items c.deref.result.now
    refl c.heading.ensures c.deref.ensures.value c.in_ok-own_places.ensures in
    rows_within (attribute_names c.args.common.now) c.args.rel.now.heading c.deref.result.now c.rows.result.now own
    (subst (All (IsTupleOf c.args.rel.now.heading)) (sym c.rows.ensures.rows) c.rows.ensures.headed)

pub group_of-requires-clause-within : goal.group_of-requires-clause-within
group_of-requires-clause-within c =
    let places = same_places c.args.common.now c.args.common.now c.heading-2.result.now c.args.per.now.heading c.in_ok-places.places.items c.deref-in-loop-tuple.result.now
    refl c.heading-2.ensures c.deref-in-loop-tuple.ensures.value c.in_ok-places.ensures in
    places_within (attribute_names c.args.common.now) c.args.per.now.heading c.deref-in-loop-tuple.result.now c.tuple-item.result places
    (row_headed c.args.per.now.heading c.args.per.now.body c.rows-tuple-items.result.now c.loop-tuple.tuple-index c.tuple-item.result
    c.rows-tuple-items.ensures.rows c.tuple-item.is c.loop-tuple-test.true c.rows-tuple-items.ensures.headed)

pub loop-tuple-preserved : goal.loop-tuple-preserved
loop-tuple-preserved c =
    let names = attribute_names c.args.common.now in
    let r = c.args.rel.now in
    let w = c.tuple-item.result in
    let own = same_places c.args.common.now c.args.common.now c.heading.result.now r.heading c.in_ok-own_places.own_places.items c.deref.result.now
    refl c.heading.ensures c.deref.ensures.value c.in_ok-own_places.ensures in
    let places = same_places c.args.common.now c.args.common.now c.heading-2.result.now c.args.per.now.heading c.in_ok-places.places.items c.deref-in-loop-tuple.result.now
    refl c.heading-2.ensures c.deref-in-loop-tuple.ensures.value c.in_ok-places.ensures in
    let headed = row_headed c.args.per.now.heading c.args.per.now.body c.rows-tuple-items.result.now c.loop-tuple.tuple-index w
    c.rows-tuple-items.ensures.rows c.tuple-item.is c.loop-tuple-test.true c.rows-tuple-items.ensures.headed in
    let found = ap (λ l. partners_in l c.deref-in-loop-tuple.result.now w) (c.in_ok-lookup.ensures ∙ ap (λ ts. (c.deref.result.now, ts)) c.rows.ensures.rows)
    ∙ found_on names c.args.per.now.heading r.heading w r.body c.deref-in-loop-tuple.result.now c.deref.result.now c.requires.per c.requires.rel headed c.rows.ensures.headed
    places own in
    let group = c.in_ok-group.ensures ∙ ap (relation_view r.heading) found in
    let passed = map_more (λ u. (u, restriction (agree_on names u) r)) c.rows-tuple-items.result.now
    c.loop-tuple.tuple-index w c.loop-tuple-test.true c.tuple-item.is in
    c.in_ok-push.ensures.items ∙ (λ i. c.loop-tuple.invariant i ++ (c.in_ok-try_clone.ensures i, group i) ∷ [])
    ∙ ap (λ us. groups_on names r (take c.loop-tuple.tuple-index us) ++ (w, restriction (agree_on names w) r) ∷ [])
    (sym c.rows-tuple-items.ensures.rows)
    ∙ sym passed ∙ ap (λ us. groups_on names r (take (c.loop-tuple.tuple-index + 1) us)) c.rows-tuple-items.ensures.rows
