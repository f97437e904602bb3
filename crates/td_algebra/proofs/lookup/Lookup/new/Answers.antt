use Rattle.std.proofs.Common.{◌≡◌, ◌∙◌, ◌+◌, ◌-◌, ◌<◌, ap, arith, drop, length, reverse, subst}
use Rattle.td_algebra.specs.code.Lookups.{HasFirsts, next_places, part_of, values_at}
use Rattle.td_algebra.proofs.Lookups.{firsts_more, next_pushed}
use Rattle.td_algebra.proofs.lookup.Lookup.new.Goals as goal

pub loop-place-preserved : goal.loop-place-preserved
loop-place-preserved c =
    let places = c.args.places.now in
    let rows = c.args.rows.now in
    let place = c.loop-place.place - 1 in
    let row = c.index-rows-place.result in
    let more : c.loop-place.place ≡ place + 1 = omega (arith, c.loop-place-test.true) in
    let within : place < length rows = omega (arith, c.loop-place-test.true, c.loop-place.invariant.2) in
    let part : c.new-part.result ≡ part_of places row = c.new-part.ensures ∙ ap (values_at places) c.values.ensures.values in
    let firsts = subst (λ n. HasFirsts places n (drop n rows) c.loop-place.firsts) more c.loop-place.invariant.0 in
    let made = c.loop-place.invariant.1 ∙ ap (λ n. reverse (next_places places n (drop n rows))) more in (
      firsts_more places rows place row c.new-part.result c.loop-place.firsts c.insert.new.self within c.index-rows-place.is part firsts
          c.in_ok-insert.ensures.updates.0,
      next_pushed places rows place row c.new-part.result c.loop-place.firsts c.in_ok-insert.field-0 c.loop-place.next.items c.push.new.self.items
          within c.index-rows-place.is part firsts c.in_ok-insert.ensures.old made c.in_ok-push.ensures.items,
      omega (arith, within),
    )
