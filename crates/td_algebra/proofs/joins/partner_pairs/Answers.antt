use Rattle.std.proofs.Common.{◌≡◌, ◌∙◌, ap, filter, subst, sym}
use Rattle.std.specs.List.{All}
use Rattle.td_value.specs.model.Values.{IsTupleOf}
use Rattle.td_algebra.specs.code.Lookups.{partners_in}
use Rattle.td_algebra.specs.model.Operators.{are_partners, relation_names}
use Rattle.td_algebra.specs.code.Pairs.{IsPaired, pair_tuple, pairs_with}
use Rattle.td_algebra.proofs.Keys.{if_ok}
use Rattle.td_algebra.proofs.OnNames.{rows_within, same_places}
use Rattle.td_algebra.proofs.PartnersByValues.{all_paired, pairs_by_values}
use Rattle.td_algebra.proofs.joins.partner_pairs.Goals as goal

pub new-requires : goal.new-requires
new-requires c =
    let r = c.args.rel.now in
    let s = c.args.other.now in
    let theirs = same_places c.heading-2.result.now r.heading c.heading.result.now s.heading c.in_ok-partner_places.partner_places.items c.deref.result.now
    c.heading-2.ensures c.heading.ensures c.deref.ensures.value c.in_ok-partner_places.ensures in
    rows_within (relation_names r) s.heading c.deref.result.now c.rows.result.now theirs
    (subst (All (IsTupleOf s.heading)) (sym c.rows.ensures.rows) c.rows.ensures.headed)

pub pairs_of-requires-clause-within : goal.pairs_of-requires-clause-within
pairs_of-requires-clause-within c =
    let r = c.args.rel.now in
    let s = c.args.other.now in
    let own = same_places c.heading-4.result.now s.heading c.heading-3.result.now r.heading c.in_ok-places.places.items c.deref-2.result.now
    c.heading-4.ensures c.heading-3.ensures c.deref-2.ensures.value c.in_ok-places.ensures in
    rows_within (relation_names s) r.heading c.deref-2.result.now c.rows-2.result.now own
    (subst (All (IsTupleOf r.heading)) (sym c.rows-2.ensures.rows) c.rows-2.ensures.headed)

pub pairs_of-requires-clause-paired : goal.pairs_of-requires-clause-paired
pairs_of-requires-clause-paired c =
    let r = c.args.rel.now in
    let s = c.args.other.now in
    let theirs = same_places c.heading-2.result.now r.heading c.heading.result.now s.heading c.in_ok-partner_places.partner_places.items c.deref.result.now
    c.heading-2.ensures c.heading.ensures c.deref.ensures.value c.in_ok-partner_places.ensures in
    let own = same_places c.heading-4.result.now s.heading c.heading-3.result.now r.heading c.in_ok-places.places.items c.deref-2.result.now
    c.heading-4.ensures c.heading-3.ensures c.deref-2.ensures.value c.in_ok-places.ensures in
    subst (λ l. All (λ t. All (IsPaired c.args.layout.now t) (partners_in l c.deref-2.result.now t)) c.rows-2.result.now) (sym c.in_ok-lookup.ensures)
    (all_paired r s c.deref-2.result.now c.deref.result.now own theirs c.args.layout.now c.rows.result.now c.rows-2.result.now c.requires
    c.rows.ensures.rows c.rows-2.ensures.rows c.rows-2.ensures.headed c.rows.ensures.headed)

pub returns : goal.returns
returns c =
    let r = c.args.rel.now in
    let s = c.args.other.now in
    let theirs = same_places c.heading-2.result.now r.heading c.heading.result.now s.heading c.in_ok-partner_places.partner_places.items c.deref.result.now
    c.heading-2.ensures c.heading.ensures c.deref.ensures.value c.in_ok-partner_places.ensures in
    let own = same_places c.heading-4.result.now s.heading c.heading-3.result.now r.heading c.in_ok-places.places.items c.deref-2.result.now
    c.heading-4.ensures c.heading-3.ensures c.deref-2.ensures.value c.in_ok-places.ensures in
    if_ok (λ pairs. pairs.items ≡ pairs_with (partners_in c.in_ok-lookup.lookup c.deref-2.result.now) (pair_tuple c.args.layout.now) c.rows-2.result.now)
    (λ pairs. pairs.items ≡ pairs_with (λ t. filter (are_partners r s t) s.body) (pair_tuple c.args.layout.now) r.body)
    c.pairs_of.result
    (λ pairs e. e ∙ ap (λ l. pairs_with (partners_in l c.deref-2.result.now) (pair_tuple c.args.layout.now) c.rows-2.result.now) c.in_ok-lookup.ensures
    ∙ pairs_by_values r s c.deref-2.result.now c.deref.result.now own theirs c.rows.result.now c.rows-2.result.now (pair_tuple c.args.layout.now)
    c.rows.ensures.rows c.rows-2.ensures.rows c.rows-2.ensures.headed c.rows.ensures.headed)
    c.pairs_of.ensures
