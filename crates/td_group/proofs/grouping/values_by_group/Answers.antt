use Rattle.std.proofs.Common.{◌≡◌, ◌∙◌, ◌++◌, ◌∷◌, [], ap, arith, map, subst, sym}
use Rattle.std.specs.List.{All}
use Rattle.std.proofs.lemmas.List.Elements.{All-drop, All-take}
use Rattle.td_algebra.specs.code.Lookups.{partners_in}
use Rattle.td_value.specs.model.Values.{IsTupleOf, Tuple, Val, relation_of, relation_value}
use Rattle.td_group.proofs.GroupParts.{cut_others, cut_parts, next_group}
use Rattle.td_group.proofs.Tables.{map_more}
use Rattle.td_group.proofs.grouping.values_by_group.Goals as goal

pub loop-tuple-init : goal.loop-tuple-init
loop-tuple-init c = (c.requires.long, c.requires.headed, λ part made. (made, c.in_ok-values.ensures.items))

pub split_at-requires : goal.split_at-requires
split_at-requires c =
    let P = partners_in c.args.lookup.now c.args.places.now in
    let next = next_group P c.args.tuples.now c.loop-tuple.tuple-index c.tuple-item.result c.loop-tuple-test.true c.tuple-item.is in
    omega (arith, next.1, c.loop-tuple.invariant.0, c.count_of-count.ensures)

pub value_of_set-requires : goal.value_of_set-requires
value_of_set-requires c =
    let Q = IsTupleOf c.args.like.now.heading in
    subst (All Q) (sym c.split_at.ensures.front) (All-take Q c.count_of-count.result c.loop-tuple.left.now c.loop-tuple.invariant.1)

pub loop-tuple-preserved : goal.loop-tuple-preserved
loop-tuple-preserved c =
    let P = partners_in c.args.lookup.now c.args.places.now in
    let Q = IsTupleOf c.args.like.now.heading in
    let ts = c.args.tuples.now in
    let i = c.loop-tuple.tuple-index in
    let t : Tuple = c.tuple-item.result in
    let next = next_group P ts i t c.loop-tuple-test.true c.tuple-item.is in (
      omega (arith, next.1, c.loop-tuple.invariant.0, c.count_of-count.ensures, c.split_at.ensures.back_len),
      subst (All Q) (sym c.split_at.ensures.back) (All-drop Q c.count_of-count.result c.loop-tuple.left.now c.loop-tuple.invariant.1),
      λ part made.
          let now = c.loop-tuple.invariant.2 part made in
          let left = now.0 ∙ ap (map part) next.0 in
          let group : c.split_at.result.0.now ≡ map part (P t) = c.split_at.ensures.front ∙ cut_parts part (P t) _ c.loop-tuple.left.now c.count_of-count.result left c.count_of-count.ensures in
          let value : Tuple → Val = λ u. relation_value (relation_of c.args.like.now.heading (map part (P u))) in (
            c.split_at.ensures.back ∙ cut_others part (P t) _ c.loop-tuple.left.now c.count_of-count.result left c.count_of-count.ensures,
            c.in_ok-push.ensures.items ∙ (λ k. now.1 k ++ (c.in_ok-value_of_set.ensures ∙ ap (λ us. relation_value (relation_of c.args.like.now.heading us)) group) k ∷ [])
                ∙ sym (map_more value ts i t c.loop-tuple-test.true c.tuple-item.is),
          ),
    )
