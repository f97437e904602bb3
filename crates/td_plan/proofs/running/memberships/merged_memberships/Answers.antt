use Rattle.std.proofs.Common.{◌≡◌, ◌∙◌, ◌++◌, ◌∷◌, [], ℤ, FitsSigned, ap, get_or, map, pos, rules, sym, take}
use Rattle.std.proofs.lemmas.Int.{to_z-of_z}
use Rattle.std.proofs.lemmas.List.{get_or_default, map-append, take_all, take_more}
use Rattle.std.specs.Ordering.{int_cmp}
use mir.Syntax.{w64}
use Rattle.td_value.specs.model.Sets.{has}
use Rattle.td_plan.proofs.Granted.{pushed}
use Rattle.td_plan.proofs.running.memberships.merged_memberships.Goals as goal

pub loop-number-preserved : goal.loop-number-preserved
loop-number-preserved c =
    let numbers = c.args.numbers.now in
    let i = c.loop-number.number-index in
    let z = get_or numbers i (pos 0) in
    let among = λ (y : ℤ). has int_cmp y c.args.members.now in
    let next = take_more numbers i z c.loop-number-test.true ∙ ap (λ y. take i numbers ++ y ∷ [])
    (get_or_default numbers i z (pos 0) c.loop-number-test.true) in
    let fits : FitsSigned w64 z = search rules in
    let found : c.in_ok-told.told ≡ among z = c.in_ok-told.ensures ∙ ap among (to_z-of_z w64 z fits) in
    pushed _ _ c.in_ok-ok.ensures.variant c.push.ensures.items ∙ (λ j. c.loop-number.invariant j ++ found j ∷ [])
    ∙ sym (map-append among (take i numbers) (z ∷ [])) ∙ ap (map among) (sym next)

pub returns : goal.returns
returns c =
    c.loop-number.invariant
    ∙ ap (map (λ z. has int_cmp z c.args.members.now)) (take_all c.loop-number.number-index c.args.numbers.now c.loop-number-test.false)
