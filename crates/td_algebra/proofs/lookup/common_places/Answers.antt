use Rattle.std.proofs.Common.{◌∙◌, ap, arith, false, sym, true}
use Rattle.td_algebra.proofs.OnNames.{places_more}
use Rattle.td_algebra.proofs.lookup.common_places.Goals as goal
use Rattle.td_algebra.proofs.lookup.common_places.Goals.{then-is_common+in_ok-push, else-is_common}

pub loop-place-preserved : goal.loop-place-preserved
loop-place-preserved c = λ t p. elim c.if-is_common.branch [
  | then-is_common+in_ok-push w ↦
      places_more c.args.other.now c.args.heading.now t c.loop-place.place c.loop-place.places.items c.if-is_common.places.items true p
      (omega (arith, c.loop-place-test.true, c.len-place-end.ensures)) (λ a at. sym w.if-is_common.true ∙ c.is_common.ensures a at)
      (ap (λ ps. ps.items) w.places-is ∙ w.in_ok-push.ensures.items) (c.loop-place.invariant t p)
  | else-is_common w ↦
      places_more c.args.other.now c.args.heading.now t c.loop-place.place c.loop-place.places.items c.if-is_common.places.items false p
      (omega (arith, c.loop-place-test.true, c.len-place-end.ensures)) (λ a at. sym w.if-is_common.false ∙ c.is_common.ensures a at)
      (ap (λ ps. ps.items) w.places-is) (c.loop-place.invariant t p)
]
