use Rattle.std.proofs.Common.{◌≡◌, ◌∙◌, [], ap, length, map, subst, sym}
use Rattle.std.specs.List.{All, flat_map}
use Rattle.std.specs.List.Sorted.{IsPermutation}
use Rattle.td_tree.specs.declared.cause.Cause.TheVariants as causes
use Rattle.td_tree.proofs.code_lemmas.Unrefused.{unrefused_if}
use Rattle.td_types.specs.model.Headings.{agree, heading_union}
use Rattle.td_value.specs.model.Values.{IsAscendingBody, IsTupleOf, relation_view}
use Rattle.td_algebra.specs.model.Operators.{product, united_tuple}
use Rattle.td_algebra.specs.code.Pairs.{IsPaired, pair_sources, pair_tuple, pairs_with}
use Rattle.td_algebra.proofs.Ascents.{ascending_set}
use Rattle.td_algebra.proofs.Joined.{apart_agree, united_answer}
use Rattle.td_algebra.proofs.Keys.{if_ok}
use Rattle.td_algebra.proofs.Products.{each_paired, pairs_are, product_ascends, product_headed}
use Rattle.td_algebra.proofs.joins.ascending_product.Goals as goal

pub all_pairs-requires : goal.all_pairs-requires
all_pairs-requires c =
    let r = c.args.rel.now in
    let s = c.args.other.now in
    let layout = c.in_ok-layout.layout in
    let laid : IsPermutation (pair_sources [] 0 r.heading (length r.heading) s.heading) layout =
    subst (λ ss. IsPermutation ss layout)
    (λ i. pair_sources (c.empty-none.ensures i) 0 (c.heading-heading.ensures i) ((c.len.ensures ∙ ap length c.heading-heading.ensures) i) (c.heading-others.ensures i)) c.in_ok-layout.ensures in
    subst (λ us. All (λ t. All (IsPaired layout t) us) c.rows.result.now) (sym c.rows-2.ensures.rows)
    (subst (All (λ t. All (IsPaired layout t) s.body)) (sym c.rows.ensures.rows) (each_paired r s c.reveal.ensures.headed c.reveal-2.ensures.headed layout laid))

pub without_refusal-requires : goal.without_refusal-requires
without_refusal-requires c =
    unrefused_if (λ h. h) c.union.result (agree c.heading-heading.result.now c.heading-others.result.now) (heading_union c.heading-heading.result.now c.heading-others.result.now) causes.Heading
    ((λ i. agree (c.heading-heading.ensures i) (c.heading-others.ensures i)) ∙ apart_agree c.args.rel.now.heading c.args.other.now.heading c.requires.apart) c.union.ensures.answer

pub of_ascending-requires-clause-headed : goal.of_ascending-requires-clause-headed
of_ascending-requires-clause-headed c =
    let r = c.args.rel.now in
    let s = c.args.other.now in
    let layout = c.in_ok-layout.layout in
    let laid : IsPermutation (pair_sources [] 0 r.heading (length r.heading) s.heading) layout =
    subst (λ ss. IsPermutation ss layout)
    (λ i. pair_sources (c.empty-none.ensures i) 0 (c.heading-heading.ensures i) ((c.len.ensures ∙ ap length c.heading-heading.ensures) i) (c.heading-others.ensures i)) c.in_ok-layout.ensures in
    let rows : c.in_ok-pairs.pairs.items ≡ flat_map (λ t. map (united_tuple t) s.body) r.body =
    c.in_ok-pairs.ensures ∙ (λ i. pairs_with (λ t. c.rows-2.ensures.rows i) (pair_tuple layout) (c.rows.ensures.rows i)) ∙ pairs_are r s c.reveal.ensures.headed c.reveal-2.ensures.headed layout laid in
    let heading : c.in_ok-united.united ≡ heading_union r.heading s.heading =
    united_answer c.heading-heading.result.now c.heading-others.result.now r.heading s.heading c.union.result c.in_ok-united.united
    c.heading-heading.ensures c.heading-others.ensures c.in_ok-united.ensures c.union.ensures.answer in
    subst (λ h. All (IsTupleOf h) c.in_ok-pairs.pairs.items) (sym heading)
    (subst (All (IsTupleOf (heading_union r.heading s.heading))) (sym rows) (product_headed r s c.reveal.ensures.headed c.reveal-2.ensures.headed layout laid))

pub of_ascending-requires-clause-ascending : goal.of_ascending-requires-clause-ascending
of_ascending-requires-clause-ascending c =
    let r = c.args.rel.now in
    let s = c.args.other.now in
    let layout = c.in_ok-layout.layout in
    let laid : IsPermutation (pair_sources [] 0 r.heading (length r.heading) s.heading) layout =
    subst (λ ss. IsPermutation ss layout)
    (λ i. pair_sources (c.empty-none.ensures i) 0 (c.heading-heading.ensures i) ((c.len.ensures ∙ ap length c.heading-heading.ensures) i) (c.heading-others.ensures i)) c.in_ok-layout.ensures in
    let rows : c.in_ok-pairs.pairs.items ≡ flat_map (λ t. map (united_tuple t) s.body) r.body =
    c.in_ok-pairs.ensures ∙ (λ i. pairs_with (λ t. c.rows-2.ensures.rows i) (pair_tuple layout) (c.rows.ensures.rows i)) ∙ pairs_are r s c.reveal.ensures.headed c.reveal-2.ensures.headed layout laid in
    subst IsAscendingBody (sym rows) (product_ascends r s c.reveal.ensures.headed c.reveal-2.ensures.headed layout laid c.requires.after c.reveal.ensures.ascending c.reveal-2.ensures.ascending)

pub returns : goal.returns
returns c =
    let r = c.args.rel.now in
    let s = c.args.other.now in
    let layout = c.in_ok-layout.layout in
    let laid : IsPermutation (pair_sources [] 0 r.heading (length r.heading) s.heading) layout =
    subst (λ ss. IsPermutation ss layout)
    (λ i. pair_sources (c.empty-none.ensures i) 0 (c.heading-heading.ensures i) ((c.len.ensures ∙ ap length c.heading-heading.ensures) i) (c.heading-others.ensures i)) c.in_ok-layout.ensures in
    let rows : c.in_ok-pairs.pairs.items ≡ flat_map (λ t. map (united_tuple t) s.body) r.body =
    c.in_ok-pairs.ensures ∙ (λ i. pairs_with (λ t. c.rows-2.ensures.rows i) (pair_tuple layout) (c.rows.ensures.rows i)) ∙ pairs_are r s c.reveal.ensures.headed c.reveal-2.ensures.headed layout laid in
    let heading : c.in_ok-united.united ≡ heading_union r.heading s.heading =
    united_answer c.heading-heading.result.now c.heading-others.result.now r.heading s.heading c.union.result c.in_ok-united.united
    c.heading-heading.ensures c.heading-others.ensures c.in_ok-united.ensures c.union.ensures.answer in
    let up = product_ascends r s c.reveal.ensures.headed c.reveal-2.ensures.headed layout laid c.requires.after c.reveal.ensures.ascending c.reveal-2.ensures.ascending in
    if_ok (λ made. made ≡ relation_view c.in_ok-united.united c.in_ok-pairs.pairs.items) (λ made. made ≡ product r s) c.of_ascending.result
    (λ made e. e ∙ (λ i. relation_view (heading i) (rows i)) ∙ ascending_set (heading_union r.heading s.heading) (flat_map (λ t. map (united_tuple t) s.body) r.body) up) c.of_ascending.ensures
