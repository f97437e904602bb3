use Rattle.std.proofs.Common.{◌≡◌, ◌∙◌, ◌++◌, ap, subst, sym, true}
use Rattle.std.specs.List.{All, flat_map}
use Rattle.td_tree.specs.declared.cause.Cause.TheVariants as causes
use Rattle.td_types.specs.model.Headings.{agree, are_distinct, have_no_common, heading_union, outside, without_attribute}
use Rattle.td_types.specs.model.Types.{attribute_names}
use Rattle.td_value.specs.model.Values.{IsTupleOf, value_at}
use Rattle.td_algebra.specs.code.Pairs.{IsPaired, pair_tuple, pairs_with}
use Rattle.td_algebra.proofs.Taken.{relation_is, value_of_answer}
use Rattle.td_tree.proofs.code_lemmas.Unrefused.{unrefused_if}
use Rattle.td_algebra.proofs.Joined.{apart_agree}
use Rattle.td_group.specs.model.Nesting.{inner_heading, tuples_inside, unnested_tuples}
use Rattle.td_group.proofs.Nested.{unnested_headed}
use Rattle.td_group.proofs.RowLayouts.{unnested_distinct, unnested_made, unnested_paired}
use Rattle.td_group.proofs.unnesting.unnest.Goals as goal

pub row_layout-requires : goal.row_layout-requires
row_layout-requires c =
    let name = c.args.name.now in
    let r = c.args.rel.now in
    let heading = c.heading-heading.result.now in
    let rest : c.in_ok-rest.rest ≡ without_attribute name r.heading =
    value_of_answer c.without.result c.in_ok-rest.rest _ _ causes.Heading c.without.ensures.answer c.in_ok-rest.ensures ∙ ap (without_attribute name) c.heading-heading.ensures in
    let inner : c.in_ok-inner.inner ≡ inner_heading name r.heading = c.in_ok-inner.ensures ∙ ap (inner_heading name) c.heading-heading.ensures in
    let apart : have_no_common c.in_ok-rest.rest c.in_ok-inner.inner ≡ true = (λ i. have_no_common (rest i) (inner i)) ∙ c.requires.apart in
    let named : c.deref.result.now ≡ attribute_names c.in_ok-inner.inner = c.deref.ensures.value ∙ c.in_ok-attribute_names.ensures in
    (λ i. are_distinct (attribute_names (outside (c.in_ok-part.ensures.heading i) heading) ++ named i))
    ∙ unnested_distinct c.in_ok-rest.rest c.in_ok-inner.inner heading c.reveal.ensures.heading c.reveal-2.ensures.heading apart

pub unnested_rows-requires : goal.unnested_rows-requires
unnested_rows-requires c =
    let name = c.args.name.now in
    let r = c.args.rel.now in
    let rest : c.in_ok-rest.rest ≡ without_attribute name r.heading =
    value_of_answer c.without.result c.in_ok-rest.rest _ _ causes.Heading c.without.ensures.answer c.in_ok-rest.ensures ∙ ap (without_attribute name) c.heading-heading.ensures in
    let inner : c.in_ok-inner.inner ≡ inner_heading name r.heading = c.in_ok-inner.ensures ∙ ap (inner_heading name) c.heading-heading.ensures in
    let part : c.in_ok-part.part ≡ outside (without_attribute name r.heading) r.heading = c.in_ok-part.ensures.heading ∙ (λ i. outside (rest i) (c.heading-heading.ensures i)) in
    let named : c.deref.result.now ≡ attribute_names (inner_heading name r.heading) = c.deref.ensures.value ∙ c.in_ok-attribute_names.ensures ∙ ap attribute_names inner in
    let layout = c.in_ok-layout.layout in
    subst (All (λ u. All (IsPaired layout u) (tuples_inside (value_at name u)))) (sym c.rows.ensures.rows)
    (unnested_paired name r c.rows.ensures.headed c.in_ok-part.part c.heading-heading.result.now c.deref.result.now layout c.heading-heading.ensures part named c.in_ok-layout.ensures)

pub without_refusal-requires-2 : goal.without_refusal-requires-2
without_refusal-requires-2 c =
    let name = c.args.name.now in
    let r = c.args.rel.now in
    let rest : c.in_ok-rest.rest ≡ without_attribute name r.heading =
    value_of_answer c.without.result c.in_ok-rest.rest _ _ causes.Heading c.without.ensures.answer c.in_ok-rest.ensures ∙ ap (without_attribute name) c.heading-heading.ensures in
    let inner : c.in_ok-inner.inner ≡ inner_heading name r.heading = c.in_ok-inner.ensures ∙ ap (inner_heading name) c.heading-heading.ensures in
    unrefused_if (λ h. h) c.union.result (agree c.in_ok-rest.rest c.in_ok-inner.inner) (heading_union c.in_ok-rest.rest c.in_ok-inner.inner) causes.Heading
    ((λ i. agree (rest i) (inner i)) ∙ apart_agree (without_attribute name r.heading) (inner_heading name r.heading) c.requires.apart) c.union.ensures.answer

pub new-requires : goal.new-requires
new-requires c =
    let name = c.args.name.now in
    let r = c.args.rel.now in
    let rest : c.in_ok-rest.rest ≡ without_attribute name r.heading =
    value_of_answer c.without.result c.in_ok-rest.rest _ _ causes.Heading c.without.ensures.answer c.in_ok-rest.ensures ∙ ap (without_attribute name) c.heading-heading.ensures in
    let inner : c.in_ok-inner.inner ≡ inner_heading name r.heading = c.in_ok-inner.ensures ∙ ap (inner_heading name) c.heading-heading.ensures in
    let heading : c.in_ok-heading.heading ≡ heading_union (without_attribute name r.heading) (inner_heading name r.heading) =
    value_of_answer c.union.result c.in_ok-heading.heading _ _ causes.Heading c.union.ensures.answer c.in_ok-heading.ensures ∙ (λ i. heading_union (rest i) (inner i)) in
    let part : c.in_ok-part.part ≡ outside (without_attribute name r.heading) r.heading = c.in_ok-part.ensures.heading ∙ (λ i. outside (rest i) (c.heading-heading.ensures i)) in
    let named : c.deref.result.now ≡ attribute_names (inner_heading name r.heading) = c.deref.ensures.value ∙ c.in_ok-attribute_names.ensures ∙ ap attribute_names inner in
    let layout = c.in_ok-layout.layout in
    let rows : c.in_ok-rows.rows.items ≡ flat_map (unnested_tuples name r) r.body =
    c.in_ok-rows.ensures ∙ ap (pairs_with (λ u. tuples_inside (value_at name u)) (pair_tuple layout)) c.rows.ensures.rows
    ∙ unnested_made name r c.rows.ensures.headed c.in_ok-part.part c.heading-heading.result.now c.deref.result.now layout c.heading-heading.ensures part named c.in_ok-layout.ensures in
    subst (λ h. All (IsTupleOf h) c.in_ok-rows.rows.items) (sym heading) (subst (All (IsTupleOf _)) (sym rows) (unnested_headed name r c.rows.ensures.headed c.requires.apart))

pub returns : goal.returns
returns c =
    let name = c.args.name.now in
    let r = c.args.rel.now in
    let rest : c.in_ok-rest.rest ≡ without_attribute name r.heading =
    value_of_answer c.without.result c.in_ok-rest.rest _ _ causes.Heading c.without.ensures.answer c.in_ok-rest.ensures ∙ ap (without_attribute name) c.heading-heading.ensures in
    let inner : c.in_ok-inner.inner ≡ inner_heading name r.heading = c.in_ok-inner.ensures ∙ ap (inner_heading name) c.heading-heading.ensures in
    let heading : c.in_ok-heading.heading ≡ heading_union (without_attribute name r.heading) (inner_heading name r.heading) =
    value_of_answer c.union.result c.in_ok-heading.heading _ _ causes.Heading c.union.ensures.answer c.in_ok-heading.ensures ∙ (λ i. heading_union (rest i) (inner i)) in
    let part : c.in_ok-part.part ≡ outside (without_attribute name r.heading) r.heading = c.in_ok-part.ensures.heading ∙ (λ i. outside (rest i) (c.heading-heading.ensures i)) in
    let named : c.deref.result.now ≡ attribute_names (inner_heading name r.heading) = c.deref.ensures.value ∙ c.in_ok-attribute_names.ensures ∙ ap attribute_names inner in
    let layout = c.in_ok-layout.layout in
    let rows : c.in_ok-rows.rows.items ≡ flat_map (unnested_tuples name r) r.body =
    c.in_ok-rows.ensures ∙ ap (pairs_with (λ u. tuples_inside (value_at name u)) (pair_tuple layout)) c.rows.ensures.rows
    ∙ unnested_made name r c.rows.ensures.headed c.in_ok-part.part c.heading-heading.result.now c.deref.result.now layout c.heading-heading.ensures part named c.in_ok-layout.ensures in
    relation_is c.new.result c.in_ok-heading.heading _ c.in_ok-rows.rows.items _ heading rows c.new.ensures.value
