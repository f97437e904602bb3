use Rattle.std.proofs.Common.{◌≡◌, ◌∙◌, subst, sym, []}
use Rattle.std.specs.List.{All}
use Rattle.td_types.specs.model.Headings.{heading_union}
use Rattle.td_value.specs.model.Sets.{set_of}
use Rattle.td_value.specs.model.Values.{HaveSameMembers, IsTupleOf, tuple_cmp, relation_view}
use Rattle.td_algebra.specs.model.Operators.{join}
use Rattle.td_algebra.specs.code.Pairs.{partners_paired}
use Rattle.td_algebra.proofs.Joined.{joined_headed, joined_set, united_answer}
use Rattle.td_algebra.proofs.Keys.{if_ok}
use Rattle.td_algebra.proofs.joins.hash_join.Goals as goal

pub new-requires : goal.new-requires
new-requires c =
    let heading : c.in_ok-heading.heading ≡ heading_union c.args.rel.now.heading c.args.other.now.heading =
    united_answer c.heading.result.now c.heading-2.result.now c.args.rel.now.heading c.args.other.now.heading c.union.result c.in_ok-heading.heading
    c.heading.ensures c.heading-2.ensures c.in_ok-heading.ensures c.union.ensures.answer in
    let same : HaveSameMembers c.in_ok-pairs.pairs.items (partners_paired [] c.args.rel.now c.args.other.now) =
    subst (λ h. HaveSameMembers c.in_ok-pairs.pairs.items (partners_paired h c.args.rel.now c.args.other.now)) c.empty-none.ensures c.in_ok-pairs.ensures in
    subst (λ h. All (IsTupleOf h) c.in_ok-pairs.pairs.items) (sym heading)
    (joined_headed c.args.rel.now c.args.other.now c.in_ok-pairs.pairs.items c.reveal.ensures.headed c.reveal-2.ensures.headed same)

pub returns : goal.returns
returns c =
    let heading : c.in_ok-heading.heading ≡ heading_union c.args.rel.now.heading c.args.other.now.heading =
    united_answer c.heading.result.now c.heading-2.result.now c.args.rel.now.heading c.args.other.now.heading c.union.result c.in_ok-heading.heading
    c.heading.ensures c.heading-2.ensures c.in_ok-heading.ensures c.union.ensures.answer in
    let same : HaveSameMembers c.in_ok-pairs.pairs.items (partners_paired [] c.args.rel.now c.args.other.now) =
    subst (λ h. HaveSameMembers c.in_ok-pairs.pairs.items (partners_paired h c.args.rel.now c.args.other.now)) c.empty-none.ensures c.in_ok-pairs.ensures in
    let rows : set_of tuple_cmp c.in_ok-pairs.pairs.items ≡ (join c.args.rel.now c.args.other.now).body =
    joined_set c.args.rel.now c.args.other.now c.in_ok-pairs.pairs.items same in
    if_ok (λ r. r ≡ relation_view c.in_ok-heading.heading (set_of tuple_cmp c.in_ok-pairs.pairs.items)) (λ r. r ≡ join c.args.rel.now c.args.other.now) c.new.result
    (λ r e. e ∙ (λ i. relation_view (heading i) (rows i))) c.new.ensures.value
