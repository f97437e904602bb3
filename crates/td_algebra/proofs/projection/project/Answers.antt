use Rattle.std.proofs.Common.{◌≡◌, ◌∙◌, ap, arith, length, map, subst, sym}
use Rattle.std.specs.List.{All}
use Rattle.std.proofs.lemmas.List.Elements.{All-map}
use Rattle.td_tree.specs.declared.cause.Cause.TheVariants as causes
use Rattle.td_types.specs.model.Headings.{projection}
use Rattle.td_value.specs.model.Sets.{set_of}
use Rattle.td_value.specs.model.Values.{IsTupleOf, projected_tuple, tuple_cmp, relation_view}
use Rattle.td_algebra.specs.model.Operators.{projected_relation}
use Rattle.td_algebra.proofs.Distinct.{All-same_members, projected_members}
use Rattle.td_algebra.proofs.Joined.{sets_alike}
use Rattle.td_algebra.proofs.Keys.{if_ok}
use Rattle.td_algebra.proofs.Projections.{IsTupleOf-projected}
use Rattle.td_algebra.proofs.Sources.{outside_in_range}
use Rattle.td_algebra.proofs.Taken.{all_in_range, headed_by, value_of_answer}
use Rattle.td_algebra.proofs.Whole.{projection_whole}
use Rattle.td_algebra.proofs.projection.project.Goals as goal

pub distinct-requires : goal.distinct-requires
distinct-requires c =
    let h = c.heading-operand.result.now in
    all_in_range _ c.in_ok-layout.layout h c.rows.result.now c.in_ok-layout.ensures (outside_in_range _ 0 (length h) h (omega arith))
    (headed_by _ _ _ _ c.heading-operand.ensures c.rows.ensures.rows c.rows.ensures.headed)

pub new-requires : goal.new-requires
new-requires c =
    let names = c.args.names.now in
    let r = c.args.rel.now in
    let heading = value_of_answer c.project.result c.in_ok-heading.heading _ _ causes.Heading c.project.ensures.answer c.in_ok-heading.ensures in
    let same = projected_members names c.heading-operand.result.now c.in_ok-heading.heading c.rows.result.now r.body c.in_ok-rows.rows.items c.in_ok-layout.layout
    heading c.rows.ensures.rows (headed_by _ _ _ _ c.heading-operand.ensures c.rows.ensures.rows c.rows.ensures.headed)
    c.in_ok-layout.ensures c.in_ok-rows.ensures in
    subst (λ h. All (IsTupleOf h) c.in_ok-rows.rows.items) (sym (heading ∙ ap (projection names) c.heading-operand.ensures))
    (All-same_members (IsTupleOf (projection names r.heading)) c.in_ok-rows.rows.items (map (projected_tuple names) r.body) same
    (All-map (IsTupleOf (projection names r.heading)) (projected_tuple names) r.body (λ k d l. IsTupleOf-projected names r.heading _ (c.rows.ensures.headed k d l))))

pub returns : goal.returns
returns c =
    let names = c.args.names.now in
    let r = c.args.rel.now in
    let heading = value_of_answer c.project.result c.in_ok-heading.heading _ _ causes.Heading c.project.ensures.answer c.in_ok-heading.ensures in
    let same = projected_members names c.heading-operand.result.now c.in_ok-heading.heading c.rows.result.now r.body c.in_ok-rows.rows.items c.in_ok-layout.layout
    heading c.rows.ensures.rows (headed_by _ _ _ _ c.heading-operand.ensures c.rows.ensures.rows c.rows.ensures.headed)
    c.in_ok-layout.ensures c.in_ok-rows.ensures in
    let body = sets_alike c.in_ok-rows.rows.items (map (projected_tuple names) r.body) same in
    let whole = heading ∙ ap (projection names) c.heading-operand.ensures in
    if_ok (λ made. made ≡ relation_view c.in_ok-heading.heading (set_of tuple_cmp c.in_ok-rows.rows.items)) (λ made. made ≡ projected_relation names r) c.new.result
    (λ made e. e ∙ (λ i. relation_view (whole i) (body i))) c.new.ensures.value

pub returns-then-len : goal.returns-then-len
returns-then-len c =
    let names = c.args.names.now in
    let r = c.args.rel.now in
    let heading = value_of_answer c.project.result c.in_ok-heading.heading _ _ causes.Heading c.project.ensures.answer c.in_ok-heading.ensures in
    let kept = heading ∙ ap (projection names) c.heading-operand.ensures in
    let all = sym (ap length kept) ∙ sym c.len.ensures ∙ c.if-len.true ∙ c.len-2.ensures ∙ ap length c.heading-operand.ensures in
    let whole = projection_whole names r all c.reveal.ensures.headed c.reveal.ensures.ascending in
    if_ok (λ made. made ≡ r) (λ made. made ≡ projected_relation names r) c.try_clone.result (λ made e. e ∙ whole) c.try_clone.ensures
