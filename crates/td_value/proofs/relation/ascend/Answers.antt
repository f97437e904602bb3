use Rattle.std.proofs.Common.{◌≡◌, ◌∙◌, ◌+◌, ◌-◌, ap, arith, drop, get_or, subst, sym}
use Rattle.std.specs.Ordering.{is_lt}
use Rattle.td_value.specs.model.Values.{IsAscendingBody}
use Rattle.td_value.proofs.Ascending.{is_less, last_ascends, one_before}
use Rattle.td_value.proofs.relation.ascend.Goals as goal

pub loop-place-init : goal.loop-place-init
loop-place-init c =
    (omega (arith, c.saturating_sub-place.ensures), last_ascends c.saturating_sub-place.result c.args.rows.now (omega (arith, c.saturating_sub-place.ensures)))

pub loop-place-preserved : goal.loop-place-preserved
loop-place-preserved c =
    let rows = c.args.rows.now in
    let place = c.loop-place.place in
    let here : place - 1 + 1 ≡ place = omega (arith, c.loop-place-test.true) in
    let next = subst (λ n. c.index-rows-place-in-loop-place.result ≡ get_or rows n c.index-rows-place-in-loop-place.result) (sym here) c.index-rows-place-in-loop-place.is in
    let less = is_less _ (sym (c.if-not-is_lt.ensures ∙ ap is_lt c.compare_by_values.ensures)) in (
      omega (arith, c.loop-place.invariant.0),
      one_before rows (place - 1) c.index-rows-place.result c.index-rows-place-in-loop-place.result c.requires (omega (arith, here, c.loop-place.invariant.0, c.loop-place-test.true))
          c.index-rows-place.is next less (subst (λ n. IsAscendingBody (drop n rows)) (sym here) c.loop-place.invariant.1),
    )

pub returns : goal.returns
returns c =
    let none : c.loop-place.place ≡ 0 = omega (arith, c.loop-place-test.false) in
    λ _. subst (λ n. IsAscendingBody (drop n c.args.rows.now)) none c.loop-place.invariant.1
