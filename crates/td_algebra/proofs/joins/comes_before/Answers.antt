use Rattle.std.proofs.Common.{◌≡◌, ◌∙◌, ◌+◌, arith, length, sym}
use Rattle.td_algebra.proofs.Ascents.{is_less}
use Rattle.td_algebra.proofs.Products.{after_first}
use Rattle.td_algebra.proofs.joins.comes_before.Goals as goal

pub returns-in-Some-Some : goal.returns-in-Some-Some
returns-in-Some-Some c = λ told.
    let place : c.in-Some.place + 1 ≡ length c.args.heading.now = omega (arith, c.in-Some.ensures.0, c.in-Some.ensures.1, c.len.ensures) in
    after_first c.args.heading.now c.args.other.now c.in-Some.place c.in-Some-Some.last.now c.in-Some-Some.first.now _ _ c.at.ensures.ascending c.at-2.ensures.ascending c.in-Some-Some.ensures.attribute place c.in-Some-Some.ensures'.attribute (is_less _ (sym c.lt.ensures ∙ told))
