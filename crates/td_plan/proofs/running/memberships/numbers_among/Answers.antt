use Rattle.std.proofs.Common.{◌≡◌, ◌∙◌, ◌++◌, ◌∷◌, [], ℤ, ap, get_or, map, pos, sym, take}
use Rattle.std.proofs.lemmas.List.{get_or_default, map-append, take_all, take_more}
use Rattle.std.specs.HashSet.{contains}
use Rattle.std.specs.Ordering.{eq_by_cmp, int_cmp}
use Rattle.td_value.specs.model.Sets.{has}
use Rattle.td_plan.proofs.Granted.{granted, pushed}
use Rattle.td_plan.proofs.running.memberships.numbers_among.Goals as goal

pub loop-number-preserved : goal.loop-number-preserved
loop-number-preserved c =
    let numbers = c.args.numbers.now in
    let i = c.loop-number.number-index in
    let z = get_or numbers i (pos 0) in
    let among = λ (y : ℤ). has int_cmp y c.args.members.now in
    let next = take_more numbers i z c.loop-number-test.true ∙ ap (λ y. take i numbers ++ y ∷ [])
    (get_or_default numbers i z (pos 0) c.loop-number-test.true) in
    let found : c.contains.result ≡ among z = c.contains.ensures ∙ granted c.hashed_numbers.result c.in_ok-members.members (λ set. (z : ℤ) → contains (eq_by_cmp int_cmp) set z ≡ has int_cmp z c.args.members.now) c.in_ok-members.ensures.value c.hashed_numbers.ensures z in
    pushed _ _ c.in_ok-ok.ensures.variant c.push.ensures.items ∙ (λ j. c.loop-number.invariant j ++ found j ∷ [])
    ∙ sym (map-append among (take i numbers) (z ∷ [])) ∙ ap (map among) (sym next)

pub returns : goal.returns
returns c =
    c.loop-number.invariant
    ∙ ap (map (λ z. has int_cmp z c.args.members.now)) (take_all c.loop-number.number-index c.args.numbers.now c.loop-number-test.false)
