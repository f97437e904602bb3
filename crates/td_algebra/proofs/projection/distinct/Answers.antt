use Rattle.std.proofs.Common.{◌≡◌, ◌∙◌, map, refl, subst, sym}
use Rattle.std.specs.List.Sorted.{IsPermutation}
use Rattle.std.proofs.lemmas.List.{take_all}
use Rattle.td_value.specs.model.Values.{HaveSameMembers}
use Rattle.td_value.specs.code.Views.{values_of}
use Rattle.td_algebra.specs.code.Layouts.{placed_tuple}
use Rattle.td_algebra.proofs.Distinct.{members_more, placed_more}
use Rattle.td_algebra.proofs.Keys.{if_ok}
use Rattle.td_algebra.proofs.projection.distinct.Goals as goal

pub loop-row-preserved : goal.loop-row-preserved
loop-row-preserved c = (
  c.in_ok-put_unseen.ensures.layout ∙ c.loop-row.invariant.0,
  λ sources p.
      subst (HaveSameMembers c.put_unseen.new.kept.1)
      (sym (placed_more (λ t. placed_tuple sources (values_of t)) c.args.rows.now c.loop-row.row-index c.row-item.result (placed_tuple sources (values_of c.row-item.result)) c.loop-row-test.true c.row-item.is refl))
      (members_more c.loop-row.kept.1 c.put_unseen.new.kept.1 _ _ (c.loop-row.invariant.1 sources p)
      (c.in_ok-put_unseen.ensures.members sources (subst (IsPermutation sources) (sym c.loop-row.invariant.0) p))),
)

pub returns : goal.returns
returns c = λ sources p.
    let all = map (λ t. placed_tuple sources (values_of t)) c.args.rows.now in
    let same = subst (λ ts. HaveSameMembers c.loop-row.kept.1 (map (λ t. placed_tuple sources (values_of t)) ts)) (take_all c.loop-row.row-index c.args.rows.now c.loop-row-test.false)
    (c.loop-row.invariant.1 sources p) in
    if_ok (λ tuples. tuples.items ≡ c.loop-row.kept.1) (λ tuples. HaveSameMembers tuples.items all) c.finish.result (λ tuples e. subst (λ ts. HaveSameMembers ts all) (sym e) same) c.finish.ensures.made
