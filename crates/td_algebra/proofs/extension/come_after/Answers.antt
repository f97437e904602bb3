use Rattle.std.proofs.Common.{◌≡◌, ◌∙◌, ◌+◌, arith, length, sym}
use Rattle.td_algebra.proofs.Ascents.{after_last}
use Rattle.td_algebra.proofs.extension.come_after.Goals as goal

pub returns-in-Some-at : goal.returns-in-Some-at
returns-in-Some-at c = λ told.
    let place : c.in-Some.place + 1 ≡ length c.args.heading.now = omega (arith, c.in-Some.ensures.0, c.in-Some.ensures.1, c.len.ensures) in
    after_last c.args.heading.now c.in-Some.place c.in-Some-at.last.now _ c.args.names.now c.at.ensures.ascending c.in-Some-at.ensures.attribute place (sym c.are_above.ensures ∙ told)
