use Rattle.std.proofs.Common.{◌≡◌, ◌∙◌, ap, append-nil, filter, map, subst, sym, [], ◌∷◌}
use Rattle.std.specs.Prelude.{IsTrue, not}
use Rattle.std.specs.List.{All}
use Rattle.std.proofs.lemmas.List.Elements.{All-contains}
use Rattle.td_tree.specs.declared.cause.Cause.TheVariants as causes
use Rattle.td_types.specs.model.Headings.{are_distinct, has_attribute, has_attributes, has_projection, outside, projection}
use Rattle.td_types.specs.model.Types.{Heading, IsHeading, attribute_names, pack}
use Rattle.td_types.specs.model.Types as types
use Rattle.td_types.proofs.HeadingLaws.{IsHeading-filter}
use Rattle.td_value.specs.model.Agreement.{agree_on}
use Rattle.td_value.specs.model.Values.{IsAscendingBody, IsTupleOf, Tuple, Val, projected_tuple, relation_of, relation_value}
use Rattle.td_value.specs.code.Views.{values_of}
use Rattle.td_algebra.specs.model.Operators.{extended_relation, projected_relation, new_attribute}
use Rattle.td_algebra.specs.code.Layouts.{AreInRange, placed_tuple}
use Rattle.td_algebra.proofs.Entries.{heading_distinct}
use Rattle.td_algebra.proofs.Keys.{if_ok}
use Rattle.td_algebra.proofs.Members.{first_true, second_true}
use Rattle.td_algebra.proofs.OnNames.{projection_there}
use Rattle.td_algebra.proofs.Projections.{IsTupleOf-projected}
use Rattle.td_algebra.proofs.Relations.{All-from_members}
use Rattle.td_algebra.proofs.Taken.{value_of_answer}
use Rattle.td_group.specs.model.Nesting.{group_of, grouped_relation, rest_heading, rest_names}
use Rattle.td_group.proofs.Grouped.{column_fits, rest_lacks, rest_projects}
use Rattle.td_group.proofs.GroupParts.{none_ascends, parts_alike}
use Rattle.td_group.proofs.RowLayouts.{part_placed, parts_in_range}
use Rattle.td_group.proofs.grouping.group.Goals as goal

pub project-requires-2 : goal.project-requires-2
project-requires-2 c =
    let names = c.args.names.now in
    let r = c.args.rel.now in
    let part = value_of_answer c.project.result c.in_ok-part.part _ _ causes.Heading c.project.ensures.answer c.in_ok-part.ensures ∙ ap (projection names) c.heading-heading.ensures in
    let rest : c.in_ok-rest.rest ≡ rest_heading names r.heading = c.in_ok-rest.ensures.heading ∙ (λ i. outside (part i) (c.heading-heading.ensures i)) in
    subst (λ ns. IsTrue (has_projection ns r.heading)) (sym (c.deref.ensures.value ∙ c.in_ok-attribute_names.ensures ∙ ap attribute_names rest))
    (rest_projects (projection names r.heading) r.heading (subst (λ h. IsHeading (pack h)) c.heading-heading.ensures c.reveal.ensures.heading))

pub row_layout-requires : goal.row_layout-requires
row_layout-requires c =
    let outside_rest = outside c.in_ok-rest.rest c.heading-heading.result.now in
    ap are_distinct (append-nil (attribute_names outside_rest))
    ∙ heading_distinct outside_rest (IsHeading-filter (λ a. not (has_attribute a.0 c.in_ok-rest.rest)) c.heading-heading.result.now c.reveal.ensures.heading)

pub of_ascending-requires-clause-ascending : goal.of_ascending-requires-clause-ascending
of_ascending-requires-clause-ascending c = subst IsAscendingBody (sym c.new.ensures.items) none_ascends

pub group_values-requires-clause-rel : goal.group_values-requires-clause-rel
group_values-requires-clause-rel c =
    let names = c.args.names.now in
    let r = c.args.rel.now in
    let part = value_of_answer c.project.result c.in_ok-part.part _ _ causes.Heading c.project.ensures.answer c.in_ok-part.ensures ∙ ap (projection names) c.heading-heading.ensures in
    let rest : c.in_ok-rest.rest ≡ rest_heading names r.heading = c.in_ok-rest.ensures.heading ∙ (λ i. outside (part i) (c.heading-heading.ensures i)) in
    subst (λ h. IsTrue (has_attributes (attribute_names h) r.heading)) (sym rest)
    (first_true _ _ (rest_projects (projection names r.heading) r.heading (subst (λ h. IsHeading (pack h)) c.heading-heading.ensures c.reveal.ensures.heading)))

pub group_values-requires-clause-keys : goal.group_values-requires-clause-keys
group_values-requires-clause-keys c =
    let names = c.args.names.now in
    let r = c.args.rel.now in
    let part = value_of_answer c.project.result c.in_ok-part.part _ _ causes.Heading c.project.ensures.answer c.in_ok-part.ensures ∙ ap (projection names) c.heading-heading.ensures in
    let rest : c.in_ok-rest.rest ≡ rest_heading names r.heading = c.in_ok-rest.ensures.heading ∙ (λ i. outside (part i) (c.heading-heading.ensures i)) in
    let keys = c.in_ok-keys.ensures ∙ ap (λ ns. projected_relation ns r) (c.deref.ensures.value ∙ c.in_ok-attribute_names.ensures) in
    subst (λ k. IsTrue (has_attributes (attribute_names c.in_ok-rest.rest) k.heading)) (sym keys)
    (projection_there (attribute_names c.in_ok-rest.rest) r.heading
    (subst (λ h. IsTrue (has_attributes (attribute_names h) r.heading)) (sym rest)
    (first_true _ _ (rest_projects (projection names r.heading) r.heading (subst (λ h. IsHeading (pack h)) c.heading-heading.ensures c.reveal.ensures.heading)))))

pub group_values-requires-clause-range : goal.group_values-requires-clause-range
group_values-requires-clause-range c =
    let names = c.args.names.now in
    let r = c.args.rel.now in
    let part = value_of_answer c.project.result c.in_ok-part.part _ _ causes.Heading c.project.ensures.answer c.in_ok-part.ensures ∙ ap (projection names) c.heading-heading.ensures in
    let rest : c.in_ok-rest.rest ≡ rest_heading names r.heading = c.in_ok-rest.ensures.heading ∙ (λ i. outside (part i) (c.heading-heading.ensures i)) in
    parts_in_range names r c.reveal-2.ensures.headed c.in_ok-rest.rest c.heading-heading.result.now c.in_ok-layout.layout c.heading-heading.ensures rest c.in_ok-layout.ensures

pub group_values-requires-clause-headed : goal.group_values-requires-clause-headed
group_values-requires-clause-headed c =
    let names = c.args.names.now in
    let r = c.args.rel.now in
    let layout = c.in_ok-layout.layout in
    let part = value_of_answer c.project.result c.in_ok-part.part _ _ causes.Heading c.project.ensures.answer c.in_ok-part.ensures ∙ ap (projection names) c.heading-heading.ensures in
    let rest : c.in_ok-rest.rest ≡ rest_heading names r.heading = c.in_ok-rest.ensures.heading ∙ (λ i. outside (part i) (c.heading-heading.ensures i)) in
    let range = parts_in_range names r c.reveal-2.ensures.headed c.in_ok-rest.rest c.heading-heading.result.now layout c.heading-heading.ensures rest c.in_ok-layout.ensures in
    let heading : c.in_ok-empty.empty.heading ≡ projection names r.heading = ap (λ q. q.heading) c.in_ok-empty.ensures ∙ c.in_ok-try_clone.ensures ∙ part in
    subst (λ h. All (λ t. IsTupleOf h (placed_tuple layout (values_of t))) r.body) (sym heading)
    (All-from_members (λ t. IsTupleOf (projection names r.heading) (placed_tuple layout (values_of t))) r.body (λ t d.
    let p = All-contains (IsTupleOf r.heading) r.body t c.reveal-2.ensures.headed d in
    subst (IsTupleOf (projection names r.heading))
    (sym (part_placed names r c.reveal-2.ensures.headed c.in_ok-rest.rest c.heading-heading.result.now layout c.heading-heading.ensures rest c.in_ok-layout.ensures t p
    (All-contains (λ u. AreInRange layout (values_of u)) r.body t range d)))
    (IsTupleOf-projected names r.heading t p)))

pub extend-requires-clause-new : goal.extend-requires-clause-new
extend-requires-clause-new c =
    let names = c.args.names.now in
    let r = c.args.rel.now in
    let part = value_of_answer c.project.result c.in_ok-part.part _ _ causes.Heading c.project.ensures.answer c.in_ok-part.ensures ∙ ap (projection names) c.heading-heading.ensures in
    let rest : c.in_ok-rest.rest ≡ rest_heading names r.heading = c.in_ok-rest.ensures.heading ∙ (λ i. outside (part i) (c.heading-heading.ensures i)) in
    let keys = c.in_ok-keys.ensures ∙ ap (λ ns. projected_relation ns r) (c.deref.ensures.value ∙ c.in_ok-attribute_names.ensures ∙ ap attribute_names rest) in
    subst (λ (k : _). IsTrue (not (has_attribute c.args.name k.heading))) (sym keys)
    (rest_lacks (projection names r.heading) r.heading c.args.name (second_true _ _ c.requires))

pub extend-requires-clause-fit : goal.extend-requires-clause-fit
extend-requires-clause-fit c =
    let names = c.args.names.now in
    let r = c.args.rel.now in
    let layout = c.in_ok-layout.layout in
    let part = value_of_answer c.project.result c.in_ok-part.part _ _ causes.Heading c.project.ensures.answer c.in_ok-part.ensures ∙ ap (projection names) c.heading-heading.ensures in
    let rest : c.in_ok-rest.rest ≡ rest_heading names r.heading = c.in_ok-rest.ensures.heading ∙ (λ i. outside (part i) (c.heading-heading.ensures i)) in
    let range = parts_in_range names r c.reveal-2.ensures.headed c.in_ok-rest.rest c.heading-heading.result.now layout c.heading-heading.ensures rest c.in_ok-layout.ensures in
    let heading : c.in_ok-empty.empty.heading ≡ projection names r.heading = ap (λ q. q.heading) c.in_ok-empty.ensures ∙ c.in_ok-try_clone.ensures ∙ part in
    let column : c.in_ok-values.values.items ≡ map (λ t. relation_value (group_of names r t)) c.in_ok-keys.keys.body =
    c.in_ok-values.ensures
    ∙ (λ i. map (λ w. relation_value (relation_of (heading i) (map (λ t. placed_tuple layout (values_of t)) (filter (agree_on (attribute_names (rest i)) w) r.body)))) c.in_ok-keys.keys.body)
    ∙ parts_alike (λ ts. relation_value (relation_of (projection names r.heading) ts)) (λ t. IsTupleOf r.heading t × AreInRange layout (values_of t)) (λ t. placed_tuple layout (values_of t)) (projected_tuple names)
    (agree_on (rest_names names r)) c.in_ok-keys.keys.body r.body (λ k d l. (c.reveal-2.ensures.headed k d l, range k d l))
    (λ t p. part_placed names r c.reveal-2.ensures.headed c.in_ok-rest.rest c.heading-heading.result.now layout c.heading-heading.ensures rest c.in_ok-layout.ensures t p.0 p.1) in
    column_fits (λ t. relation_value (group_of names r t)) _ c.in_ok-values.values.items c.in_ok-keys.keys.body column (λ t. ap (λ h. types.relation (pack h)) (sym part))

pub returns : goal.returns
returns c =
    let names = c.args.names.now in
    let r = c.args.rel.now in
    let layout = c.in_ok-layout.layout in
    let part = value_of_answer c.project.result c.in_ok-part.part _ _ causes.Heading c.project.ensures.answer c.in_ok-part.ensures ∙ ap (projection names) c.heading-heading.ensures in
    let rest : c.in_ok-rest.rest ≡ rest_heading names r.heading = c.in_ok-rest.ensures.heading ∙ (λ i. outside (part i) (c.heading-heading.ensures i)) in
    let range = parts_in_range names r c.reveal-2.ensures.headed c.in_ok-rest.rest c.heading-heading.result.now layout c.heading-heading.ensures rest c.in_ok-layout.ensures in
    let heading : c.in_ok-empty.empty.heading ≡ projection names r.heading = ap (λ q. q.heading) c.in_ok-empty.ensures ∙ c.in_ok-try_clone.ensures ∙ part in
    let column : c.in_ok-values.values.items ≡ map (λ t. relation_value (group_of names r t)) c.in_ok-keys.keys.body =
    c.in_ok-values.ensures
    ∙ (λ i. map (λ w. relation_value (relation_of (heading i) (map (λ t. placed_tuple layout (values_of t)) (filter (agree_on (attribute_names (rest i)) w) r.body)))) c.in_ok-keys.keys.body)
    ∙ parts_alike (λ ts. relation_value (relation_of (projection names r.heading) ts)) (λ t. IsTupleOf r.heading t × AreInRange layout (values_of t)) (λ t. placed_tuple layout (values_of t)) (projected_tuple names)
    (agree_on (rest_names names r)) c.in_ok-keys.keys.body r.body (λ k d l. (c.reveal-2.ensures.headed k d l, range k d l))
    (λ t p. part_placed names r c.reveal-2.ensures.headed c.in_ok-rest.rest c.heading-heading.result.now layout c.heading-heading.ensures rest c.in_ok-layout.ensures t p.0 p.1) in
    let keys = c.in_ok-keys.ensures ∙ ap (λ ns. projected_relation ns r) (c.deref.ensures.value ∙ c.in_ok-attribute_names.ensures ∙ ap attribute_names rest) in
    let value : Tuple → Val = λ t. relation_value (group_of names r t) in
    if_ok (λ made. made ≡ extended_relation (new_attribute c.args.name (types.relation (pack c.in_ok-part.part)) value ∷ []) c.in_ok-keys.keys)
    (λ made. made ≡ grouped_relation names c.args.name r) c.extend.result
    (λ made e. e ∙ (λ i. extended_relation (new_attribute c.args.name (types.relation (pack (part i))) value ∷ []) (keys i))) (c.extend.ensures value column)
