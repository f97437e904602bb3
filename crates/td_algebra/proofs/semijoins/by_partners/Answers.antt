use Rattle.std.proofs.Common.{◌≡◌, ◌∙◌, ap, sym, subst, filter}
use Rattle.std.specs.List.{All, list_any}
use Rattle.std.proofs.lemmas.List.Elements.{All-filter}
use Rattle.std.proofs.lemmas.List.Kept.{IsStrictlySortedBy-filter}
use Rattle.td_value.specs.model.Values.{IsAscendingBody, IsTupleOf, Tuple, tuple_cmp, relation_view}
use Rattle.td_algebra.specs.code.Lookups.{has_partner_in, wanted_answer}
use Rattle.td_algebra.specs.model.Operators.{are_partners, relation_names, restriction}
use Rattle.td_algebra.proofs.Keys.{if_ok}
use Rattle.td_algebra.proofs.OnNames.{rows_within, same_places}
use Rattle.td_algebra.proofs.PartnersByValues.{kept_by_values}
use Rattle.td_algebra.proofs.semijoins.by_partners.Goals as goal
use Rattle.td_algebra.proofs.semijoins.by_partners.Goals.{In_ok-try_clone}

pub new-requires : goal.new-requires
new-requires c =
    let r = c.args.rel.now in
    let s = c.args.other.now in
    let theirs = same_places c.heading-2.result.now r.heading c.heading.result.now s.heading c.in_ok-partner_places.partner_places.items c.deref.result.now
    c.heading-2.ensures c.heading.ensures c.deref.ensures.value c.in_ok-partner_places.ensures in
    rows_within (relation_names r) s.heading c.deref.result.now c.rows.result.now theirs
    (subst (All (IsTupleOf s.heading)) (sym c.rows.ensures.rows) c.rows.ensures.headed)

pub rows_by_partners-requires : goal.rows_by_partners-requires
rows_by_partners-requires c =
    let r = c.args.rel.now in
    let s = c.args.other.now in
    let own = same_places c.heading-4.result.now s.heading c.heading-3.result.now r.heading c.in_ok-places.places.items c.deref-2.result.now
    c.heading-4.ensures c.heading-3.ensures c.deref-2.ensures.value c.in_ok-places.ensures in
    rows_within (relation_names s) r.heading c.deref-2.result.now c.rows-2.result.now own
    (subst (All (IsTupleOf r.heading)) (sym c.rows-2.ensures.rows) c.rows-2.ensures.headed)

kept : (c : In_ok-try_clone) → c.in_ok-kept.kept.items ≡ filter (λ t. wanted_answer c.args.there (list_any (are_partners c.args.rel.now c.args.other.now t) c.args.other.now.body)) c.args.rel.now.body
kept c =
    let r = c.args.rel.now in
    let s = c.args.other.now in
    let theirs = same_places c.heading-2.result.now r.heading c.heading.result.now s.heading c.in_ok-partner_places.partner_places.items c.deref.result.now
    c.heading-2.ensures c.heading.ensures c.deref.ensures.value c.in_ok-partner_places.ensures in
    let own = same_places c.heading-4.result.now s.heading c.heading-3.result.now r.heading c.in_ok-places.places.items c.deref-2.result.now
    c.heading-4.ensures c.heading-3.ensures c.deref-2.ensures.value c.in_ok-places.ensures in
    kept_by_values r s c.deref-2.result.now c.deref.result.now own theirs c.rows.result.now c.rows-2.result.now c.in_ok-kept.kept.items c.args.there
    c.rows.ensures.rows c.rows-2.ensures.rows c.rows-2.ensures.headed c.rows.ensures.headed
    (c.in_ok-kept.ensures
    ∙ ap (λ l. filter (λ t. wanted_answer c.args.there (has_partner_in l c.deref-2.result.now t)) c.rows-2.result.now) c.in_ok-lookup.ensures)

pub of_ascending-requires-clause-headed : goal.of_ascending-requires-clause-headed
of_ascending-requires-clause-headed c =
    let p = λ (t : Tuple). wanted_answer c.args.there (list_any (are_partners c.args.rel.now c.args.other.now t) c.args.other.now.body) in
    let heading = c.in_ok-try_clone.ensures ∙ c.heading-5.ensures in
    subst (λ h. All (IsTupleOf h) c.in_ok-kept.kept.items) (sym heading)
    (subst (All (IsTupleOf c.args.rel.now.heading)) (sym (kept c)) (All-filter p (IsTupleOf c.args.rel.now.heading) c.args.rel.now.body c.rows-2.ensures.headed))

pub of_ascending-requires-clause-ascending : goal.of_ascending-requires-clause-ascending
of_ascending-requires-clause-ascending c =
    let p = λ (t : Tuple). wanted_answer c.args.there (list_any (are_partners c.args.rel.now c.args.other.now t) c.args.other.now.body) in
    subst IsAscendingBody (sym (kept c)) (IsStrictlySortedBy-filter tuple_cmp p c.args.rel.now.body c.rows-2.ensures.ascending)

pub returns : goal.returns
returns c =
    let r = c.args.rel.now in
    let s = c.args.other.now in
    let theirs = same_places c.heading-2.result.now r.heading c.heading.result.now s.heading c.in_ok-partner_places.partner_places.items c.deref.result.now
    c.heading-2.ensures c.heading.ensures c.deref.ensures.value c.in_ok-partner_places.ensures in
    let own = same_places c.heading-4.result.now s.heading c.heading-3.result.now r.heading c.in_ok-places.places.items c.deref-2.result.now
    c.heading-4.ensures c.heading-3.ensures c.deref-2.ensures.value c.in_ok-places.ensures in
    let p = λ (t : Tuple). wanted_answer c.args.there (list_any (are_partners r s t) s.body) in
    let heading = c.in_ok-try_clone.ensures ∙ c.heading-5.ensures in
    let rows : c.in_ok-kept.kept.items ≡ filter p r.body =
    kept_by_values r s c.deref-2.result.now c.deref.result.now own theirs c.rows.result.now c.rows-2.result.now c.in_ok-kept.kept.items c.args.there
    c.rows.ensures.rows c.rows-2.ensures.rows c.rows-2.ensures.headed c.rows.ensures.headed
    (c.in_ok-kept.ensures
    ∙ ap (λ l. filter (λ t. wanted_answer c.args.there (has_partner_in l c.deref-2.result.now t)) c.rows-2.result.now) c.in_ok-lookup.ensures) in
    if_ok (λ r. r ≡ relation_view c.in_ok-try_clone.field-0 c.in_ok-kept.kept.items) (λ made. made ≡ restriction p r) c.of_ascending.result
    (λ r e. e ∙ (λ i. relation_view (heading i) (rows i))) c.of_ascending.ensures
