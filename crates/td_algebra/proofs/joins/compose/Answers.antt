use Rattle.std.proofs.Common.{◌≡◌, ◌∙◌, subst, sym}
use Rattle.std.specs.List.{All}
use Rattle.td_tree.specs.declared.cause.Cause.TheVariants as causes
use Rattle.td_tree.proofs.code_lemmas.Unrefused.{unrefused_if}
use Rattle.td_types.specs.model.Headings.{agree, heading_union, outside, projection}
use Rattle.td_types.specs.model.Types.{IsAscending}
use Rattle.td_value.specs.model.Sets.{set_of}
use Rattle.td_value.specs.model.Values.{HaveSameMembers, IsTupleOf, tuple_cmp, relation_view}
use Rattle.td_algebra.specs.model.Operators.{composition}
use Rattle.td_algebra.specs.code.Pairs.{partners_paired}
use Rattle.td_algebra.proofs.Composed.{all_composed, composed_heading_is, composed_set, either_names, rests_agree}
use Rattle.td_algebra.proofs.Joined.{united_answer}
use Rattle.td_algebra.proofs.Keys.{if_ok}
use Rattle.td_algebra.proofs.joins.compose.Goals as goal

pub without_refusal-requires : goal.without_refusal-requires
without_refusal-requires c =
    let own = c.in_ok-own.ensures.heading ∙ (λ i. outside (c.heading-3.ensures i) (c.heading-2.ensures i)) in
    let others = c.in_ok-others.ensures.heading ∙ (λ i. outside (c.heading-5.ensures i) (c.heading-4.ensures i)) in
    unrefused_if (λ h. h) c.union.result (agree c.in_ok-own.own c.in_ok-others.others) (heading_union c.in_ok-own.own c.in_ok-others.others) causes.Heading
    ((λ i. agree (own i) (others i)) ∙ rests_agree c.args.rel.now.heading c.args.other.now.heading) c.union.ensures.answer

pub new-requires : goal.new-requires
new-requires c =
    let own = c.in_ok-own.ensures.heading ∙ (λ i. outside (c.heading-3.ensures i) (c.heading-2.ensures i)) in
    let others = c.in_ok-others.ensures.heading ∙ (λ i. outside (c.heading-5.ensures i) (c.heading-4.ensures i)) in
    let heading : c.in_ok-heading.heading ≡ projection (either_names c.args.rel.now c.args.other.now) (heading_union c.args.rel.now.heading c.args.other.now.heading) =
    united_answer c.in_ok-own.own c.in_ok-others.others (outside c.args.other.now.heading c.args.rel.now.heading) (outside c.args.rel.now.heading c.args.other.now.heading) c.union.result
    c.in_ok-heading.heading own others c.in_ok-heading.ensures c.union.ensures.answer
    ∙ composed_heading_is c.args.rel.now c.args.other.now (subst IsAscending c.heading.ensures c.reveal-3.ensures.ascending) in
    let same : HaveSameMembers c.in_ok-pairs.pairs.items (partners_paired c.args.other.now.heading c.args.rel.now c.args.other.now) =
    subst (λ h. HaveSameMembers c.in_ok-pairs.pairs.items (partners_paired h c.args.rel.now c.args.other.now)) c.heading-6.ensures c.in_ok-pairs.ensures in
    subst (λ h. All (IsTupleOf h) c.in_ok-pairs.pairs.items) (sym heading)
    (all_composed c.args.rel.now c.args.other.now c.in_ok-pairs.pairs.items c.reveal.ensures.headed c.reveal-2.ensures.headed same)

pub returns : goal.returns
returns c =
    let own = c.in_ok-own.ensures.heading ∙ (λ i. outside (c.heading-3.ensures i) (c.heading-2.ensures i)) in
    let others = c.in_ok-others.ensures.heading ∙ (λ i. outside (c.heading-5.ensures i) (c.heading-4.ensures i)) in
    let heading : c.in_ok-heading.heading ≡ projection (either_names c.args.rel.now c.args.other.now) (heading_union c.args.rel.now.heading c.args.other.now.heading) =
    united_answer c.in_ok-own.own c.in_ok-others.others (outside c.args.other.now.heading c.args.rel.now.heading) (outside c.args.rel.now.heading c.args.other.now.heading) c.union.result
    c.in_ok-heading.heading own others c.in_ok-heading.ensures c.union.ensures.answer
    ∙ composed_heading_is c.args.rel.now c.args.other.now (subst IsAscending c.heading.ensures c.reveal-3.ensures.ascending) in
    let same : HaveSameMembers c.in_ok-pairs.pairs.items (partners_paired c.args.other.now.heading c.args.rel.now c.args.other.now) =
    subst (λ h. HaveSameMembers c.in_ok-pairs.pairs.items (partners_paired h c.args.rel.now c.args.other.now)) c.heading-6.ensures c.in_ok-pairs.ensures in
    let rows : set_of tuple_cmp c.in_ok-pairs.pairs.items ≡ (composition c.args.rel.now c.args.other.now).body =
    composed_set c.args.rel.now c.args.other.now c.in_ok-pairs.pairs.items c.reveal.ensures.headed c.reveal-2.ensures.headed same in
    if_ok (λ r. r ≡ relation_view c.in_ok-heading.heading (set_of tuple_cmp c.in_ok-pairs.pairs.items)) (λ r. r ≡ composition c.args.rel.now c.args.other.now) c.new.result
    (λ r e. e ∙ (λ i. relation_view (heading i) (rows i))) c.new.ensures.value
