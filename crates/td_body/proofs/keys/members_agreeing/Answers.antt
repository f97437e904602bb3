use Rattle.std.proofs.Common.{◌≡◌, ◌∙◌, List, ap, filter, length, subst, sym}
use Rattle.std.specs.List.{All, slice_get}
use Rattle.std.specs.Ordering.{is_eq}
use Rattle.std.specs.Prelude.{Some}
use Rattle.std.proofs.lemmas.Option.{get_or_from_slice_get, slice_get_within}
use Rattle.td_value.specs.model.Values.{Tuple, IsTupleOf, tuple_names}
use Rattle.td_body.specs.code.KeyParts.{places_from, values_cmp}
use Rattle.td_body.proofs.FirstNames.{names_all}
use Rattle.td_body.proofs.Parts.{as_many, filter-agreeing}
use Rattle.td_body.proofs.keys.members_agreeing.Goals as goal

first_headed : (P : Tuple → Type 0) (rows : List Tuple) (first : Tuple) → All P rows → slice_get rows 0 ≡ Some first → P first
first_headed P rows first all is = subst P (get_or_from_slice_get rows 0 first first is) (all 0 first (slice_get_within rows 0 first is))

pub keep_agreeing-requires-clause-same : goal.keep_agreeing-requires-clause-same
keep_agreeing-requires-clause-same c =
    let r = c.args.relation.now in
    let first = c.in-Some.first.now in
    let is_first = subst (λ rs. slice_get rs 0 ≡ Some first) c.rows-rows.ensures.rows (sym c.in-Some.ensures.value) in
    let headed = first_headed (IsTupleOf r.heading) r.body first c.rows-rows.ensures.headed is_first in
    let places = c.deref.ensures.value ∙ c.in_ok-places.ensures ∙ ap (places_from 0 c.args.key.now) c.names.ensures.names in
    ap length places ∙ as_many c.args.key.now r.heading c.args.part.now c.requires first headed ∙ ap length (sym c.values.ensures.values)

pub returns : goal.returns
returns c =
    let r = c.args.relation.now in
    let first = c.in-Some.first.now in
    let is_first = subst (λ rs. slice_get rs 0 ≡ Some first) c.rows-rows.ensures.rows (sym c.in-Some.ensures.value) in
    let names = names_all r.heading r.body first c.rows-rows.ensures.headed is_first in
    let places = c.deref.ensures.value ∙ c.in_ok-places.ensures ∙ ap (places_from 0 c.args.key.now) c.names.ensures.names in
    let kept = c.in_ok-keep_agreeing.ensures ∙ (λ i. filter (λ t. is_eq (values_cmp (places i) t (c.values.ensures.values i))) (c.rows-rows.ensures.rows i)) in
    kept ∙ filter-agreeing c.args.key.now r.heading c.args.part.now c.requires (tuple_names first) r.body c.rows-rows.ensures.headed names
