use Rattle.std.proofs.Common.{◌≡◌, ◌∙◌, ◌∷◌, ◌++◌, [], ap, append-nil, length, map, subst, sym}
use Rattle.std.specs.Prelude.{not}
use Rattle.std.specs.List.{All}
use Rattle.std.proofs.lemmas.List.{length-map}
use Rattle.td_tree.proofs.code_lemmas.Unrefused.{unrefused_if}
use Rattle.td_tree.specs.declared.cause.Cause.TheVariants as causes
use Rattle.td_types.specs.model.Headings.{are_distinct, has_attribute, has_projection, outside, projection, with_attribute}
use Rattle.td_types.specs.model.Types.{Heading, IsHeading, attribute_names, pack}
use Rattle.td_types.specs.model.Types as types
use Rattle.td_types.proofs.HeadingLaws.{IsHeading-filter}
use Rattle.td_value.specs.model.Values.{IsTupleOf, Val, projected_tuple}
use Rattle.td_value.specs.code.Views.{values_of}
use Rattle.td_algebra.specs.code.Layouts.{AreInRange}
use Rattle.td_algebra.proofs.Entries.{heading_distinct}
use Rattle.td_algebra.proofs.Members.{second_true}
use Rattle.td_algebra.proofs.Taken.{relation_is, value_of_answer}
use Rattle.td_group.specs.model.Nesting.{rest_heading, wrapped_tuple}
use Rattle.td_group.proofs.Nested.{wrapped_distinct, wrapped_headed}
use Rattle.td_group.proofs.RowLayouts.{parts_in_range, parts_made, wrapped_in_range, wrapped_made}
use Rattle.td_group.proofs.wrapping.wrap.Goals as goal

pub row_layout-requires : goal.row_layout-requires
row_layout-requires c =
    let outside_rest = outside c.in_ok-rest.rest c.heading-heading.result.now in
    ap are_distinct (append-nil (attribute_names outside_rest))
    ∙ heading_distinct outside_rest (IsHeading-filter (λ a. not (has_attribute a.0 c.in_ok-rest.rest)) c.heading-heading.result.now c.reveal.ensures.heading)

pub wrapped_parts-requires : goal.wrapped_parts-requires
wrapped_parts-requires c =
    let names = c.args.names.now in
    let r = c.args.rel.now in
    let h = c.heading-heading.result.now in
    let part : c.in_ok-part.part ≡ projection names r.heading =
    value_of_answer c.project.result c.in_ok-part.part _ _ causes.Heading c.project.ensures.answer c.in_ok-part.ensures ∙ ap (projection names) c.heading-heading.ensures in
    let rest : c.in_ok-rest.rest ≡ rest_heading names r.heading = c.in_ok-rest.ensures.heading ∙ (λ i. outside (part i) (c.heading-heading.ensures i)) in
    let layout = c.in_ok-part_layout.part_layout in
    subst (All (λ t. AreInRange layout (values_of t))) (sym c.rows.ensures.rows)
    (parts_in_range names r c.rows.ensures.headed c.in_ok-rest.rest h layout c.heading-heading.ensures rest c.in_ok-part_layout.ensures)

pub row_layout-requires-2 : goal.row_layout-requires-2
row_layout-requires-2 c =
    let names = c.args.names.now in
    let r = c.args.rel.now in
    let part : c.in_ok-part.part ≡ projection names r.heading =
    value_of_answer c.project.result c.in_ok-part.part _ _ causes.Heading c.project.ensures.answer c.in_ok-part.ensures ∙ ap (projection names) c.heading-heading.ensures in
    (λ i. are_distinct (attribute_names (outside (part i) (c.heading-heading.ensures i)) ++ c.in_ok-try_clone.ensures i ∷ []))
    ∙ wrapped_distinct names c.args.name r.heading (subst (λ (g : Heading). IsHeading (pack g)) c.heading-heading.ensures c.reveal.ensures.heading) c.requires

pub wrapped_rows-requires-clause-long : goal.wrapped_rows-requires-clause-long
wrapped_rows-requires-clause-long c =
    let names = c.args.names.now in
    let r = c.args.rel.now in
    let h = c.heading-heading.result.now in
    let part : c.in_ok-part.part ≡ projection names r.heading =
    value_of_answer c.project.result c.in_ok-part.part _ _ causes.Heading c.project.ensures.answer c.in_ok-part.ensures ∙ ap (projection names) c.heading-heading.ensures in
    let rest : c.in_ok-rest.rest ≡ rest_heading names r.heading = c.in_ok-rest.ensures.heading ∙ (λ i. outside (part i) (c.heading-heading.ensures i)) in
    let parts : c.deref.result.now ≡ map (projected_tuple names) r.body =
    c.deref.ensures.value
    ∙ parts_made names r c.rows.ensures.headed c.in_ok-rest.rest h c.in_ok-part_layout.part_layout c.heading-heading.ensures rest c.in_ok-part_layout.ensures
    c.in_ok-parts.parts.items c.rows.result.now c.rows.ensures.rows c.in_ok-parts.ensures in
    ap length parts ∙ length-map r.body (projected_tuple names) ∙ ap length (sym c.rows-2.ensures.rows)

pub wrapped_rows-requires-clause-range : goal.wrapped_rows-requires-clause-range
wrapped_rows-requires-clause-range c =
    let names = c.args.names.now in
    let r = c.args.rel.now in
    let h = c.heading-heading.result.now in
    let part : c.in_ok-part.part ≡ projection names r.heading =
    value_of_answer c.project.result c.in_ok-part.part _ _ causes.Heading c.project.ensures.answer c.in_ok-part.ensures ∙ ap (projection names) c.heading-heading.ensures in
    let layout = c.in_ok-layout.layout in
    subst (All (λ t. (v : Val) → AreInRange layout (values_of t ++ v ∷ []))) (sym c.rows-2.ensures.rows)
    (wrapped_in_range names c.args.name r c.rows.ensures.headed c.in_ok-part.part h (c.in_ok-try_clone.field-0 ∷ []) layout c.heading-heading.ensures part
    (λ i. c.in_ok-try_clone.ensures i ∷ []) c.in_ok-layout.ensures)

pub without_refusal-requires-2 : goal.without_refusal-requires-2
without_refusal-requires-2 c =
    let names = c.args.names.now in
    let r = c.args.rel.now in
    let part : c.in_ok-part.part ≡ projection names r.heading =
    value_of_answer c.project.result c.in_ok-part.part _ _ causes.Heading c.project.ensures.answer c.in_ok-part.ensures ∙ ap (projection names) c.heading-heading.ensures in
    let rest : c.in_ok-rest.rest ≡ rest_heading names r.heading = c.in_ok-rest.ensures.heading ∙ (λ i. outside (part i) (c.heading-heading.ensures i)) in
    unrefused_if (λ h. h) c.with.result (not (has_attribute c.args.name c.in_ok-rest.rest)) _ causes.Heading
    (ap (λ h. not (has_attribute c.args.name h)) rest
    ∙ second_true (has_projection names r.heading) (not (has_attribute c.args.name (rest_heading names r.heading))) c.requires) c.with.ensures.answer

pub new-requires : goal.new-requires
new-requires c =
    let names = c.args.names.now in
    let r = c.args.rel.now in
    let h = c.heading-heading.result.now in
    let part : c.in_ok-part.part ≡ projection names r.heading =
    value_of_answer c.project.result c.in_ok-part.part _ _ causes.Heading c.project.ensures.answer c.in_ok-part.ensures ∙ ap (projection names) c.heading-heading.ensures in
    let rest : c.in_ok-rest.rest ≡ rest_heading names r.heading = c.in_ok-rest.ensures.heading ∙ (λ i. outside (part i) (c.heading-heading.ensures i)) in
    let heading : c.in_ok-heading.heading ≡ with_attribute (rest_heading names r.heading) (c.args.name, types.tuple (pack (projection names r.heading))) =
    value_of_answer c.with.result c.in_ok-heading.heading _ _ causes.Heading c.with.ensures.answer c.in_ok-heading.ensures
    ∙ (λ i. with_attribute (rest i) (c.args.name, types.tuple (pack (part i)))) in
    let parts : c.deref.result.now ≡ map (projected_tuple names) r.body =
    c.deref.ensures.value
    ∙ parts_made names r c.rows.ensures.headed c.in_ok-rest.rest h c.in_ok-part_layout.part_layout c.heading-heading.ensures rest c.in_ok-part_layout.ensures
    c.in_ok-parts.parts.items c.rows.result.now c.rows.ensures.rows c.in_ok-parts.ensures in
    let rows : c.in_ok-rows.rows.items ≡ map (wrapped_tuple names c.args.name r) r.body =
    wrapped_made names c.args.name r c.rows.ensures.headed c.in_ok-part.part h (c.in_ok-try_clone.field-0 ∷ []) c.in_ok-layout.layout c.heading-heading.ensures part
    (λ i. c.in_ok-try_clone.ensures i ∷ []) c.in_ok-layout.ensures c.deref.result.now c.in_ok-rows.rows.items c.rows-2.result.now c.rows-2.ensures.rows parts c.in_ok-rows.ensures in
    subst (λ g. All (IsTupleOf g) c.in_ok-rows.rows.items) (sym heading)
    (subst (All (IsTupleOf _)) (sym rows) (wrapped_headed names c.args.name r c.rows.ensures.headed c.requires (subst (λ (g : Heading). IsHeading (pack g)) heading c.reveal-2.ensures.heading)))

pub returns : goal.returns
returns c =
    let names = c.args.names.now in
    let r = c.args.rel.now in
    let h = c.heading-heading.result.now in
    let part : c.in_ok-part.part ≡ projection names r.heading =
    value_of_answer c.project.result c.in_ok-part.part _ _ causes.Heading c.project.ensures.answer c.in_ok-part.ensures ∙ ap (projection names) c.heading-heading.ensures in
    let rest : c.in_ok-rest.rest ≡ rest_heading names r.heading = c.in_ok-rest.ensures.heading ∙ (λ i. outside (part i) (c.heading-heading.ensures i)) in
    let heading : c.in_ok-heading.heading ≡ with_attribute (rest_heading names r.heading) (c.args.name, types.tuple (pack (projection names r.heading))) =
    value_of_answer c.with.result c.in_ok-heading.heading _ _ causes.Heading c.with.ensures.answer c.in_ok-heading.ensures
    ∙ (λ i. with_attribute (rest i) (c.args.name, types.tuple (pack (part i)))) in
    let parts : c.deref.result.now ≡ map (projected_tuple names) r.body =
    c.deref.ensures.value
    ∙ parts_made names r c.rows.ensures.headed c.in_ok-rest.rest h c.in_ok-part_layout.part_layout c.heading-heading.ensures rest c.in_ok-part_layout.ensures
    c.in_ok-parts.parts.items c.rows.result.now c.rows.ensures.rows c.in_ok-parts.ensures in
    let rows : c.in_ok-rows.rows.items ≡ map (wrapped_tuple names c.args.name r) r.body =
    wrapped_made names c.args.name r c.rows.ensures.headed c.in_ok-part.part h (c.in_ok-try_clone.field-0 ∷ []) c.in_ok-layout.layout c.heading-heading.ensures part
    (λ i. c.in_ok-try_clone.ensures i ∷ []) c.in_ok-layout.ensures c.deref.result.now c.in_ok-rows.rows.items c.rows-2.result.now c.rows-2.ensures.rows parts c.in_ok-rows.ensures in
    relation_is c.new.result c.in_ok-heading.heading _ c.in_ok-rows.rows.items _ heading rows c.new.ensures.value
