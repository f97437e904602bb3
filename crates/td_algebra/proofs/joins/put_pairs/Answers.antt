use Rattle.std.proofs.Common.{◌≡◌, ◌∙◌, ◌++◌, arith, subst, sym}
use Rattle.std.specs.List.{All}
use Rattle.std.specs.List.Sorted.{IsPermutation}
use Rattle.std.proofs.lemmas.List.Elements.{All-tail}
use Rattle.std.proofs.lemmas.List.Sorted.{IsPermutation-refl}
use Rattle.td_algebra.specs.code.Layouts.{AreInRange, placed_tuple}
use Rattle.td_algebra.specs.code.Pairs.{IsPaired, pair_tuple}
use Rattle.td_algebra.proofs.Pairs.{put_first}
use Rattle.td_algebra.proofs.joins.put_pairs.Goals as goal

pub put-requires : goal.put-requires
put-requires c =
    let u = c.in-Some.partner.now in
    let layout = c.args.pairs.now.0 in
    let all = subst (All (IsPaired layout c.args.row.now)) c.in-Some.ensures.steps c.loop-partner.invariant.2 in
    let values : c.values.result.now ++ c.values-in-loop-partner.result.now ≡ _ = λ i. c.values.ensures.values i ++ c.values-in-loop-partner.ensures.values i in
    subst (λ ss. AreInRange ss (c.values.result.now ++ c.values-in-loop-partner.result.now)) (sym c.loop-partner.invariant.0)
    (subst (AreInRange layout) (sym values) (all 0 u (omega arith)))

pub loop-partner-preserved : goal.loop-partner-preserved
loop-partner-preserved c =
    let u = c.in-Some.partner.now in
    let layout = c.args.pairs.now.0 in
    let made : placed_tuple layout (c.values.result.now ++ c.values-in-loop-partner.result.now) ≡ pair_tuple layout c.args.row.now u =
    λ i. placed_tuple layout (c.values.ensures.values i ++ c.values-in-loop-partner.ensures.values i) in
    let put = c.in_ok-put.ensures.put layout (subst (IsPermutation layout) (sym c.loop-partner.invariant.0) (IsPermutation-refl layout)) in (
      c.in_ok-put.ensures.layout ∙ c.loop-partner.invariant.0,
      put_first (pair_tuple layout c.args.row.now) c.loop-partner.partner-iterator c.next.new.self u _
          c.loop-partner.pairs.1 c.put.new.self.1 _ c.in-Some.ensures.steps made put c.loop-partner.invariant.1,
      All-tail (IsPaired layout c.args.row.now) u c.next.new.self
          (subst (All (IsPaired layout c.args.row.now)) c.in-Some.ensures.steps c.loop-partner.invariant.2),
    )
