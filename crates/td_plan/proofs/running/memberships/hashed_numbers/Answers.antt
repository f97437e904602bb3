use Rattle.std.proofs.Common.{◌∙◌, FitsSigned, ap, get_or, pos, rules}
use Rattle.std.proofs.lemmas.Cmp.{int_eq_equiv}
use Rattle.std.proofs.lemmas.Int.{to_z-of_z}
use Rattle.std.proofs.lemmas.List.{get_or_default, take_all}
use Rattle.std.specs.Ordering.{int_cmp, int_eq}
use mir.Syntax.{w64}
use Rattle.td_value.specs.model.Sets.{has}
use Rattle.td_plan.proofs.Memberships.{one_hashed}
use Rattle.td_plan.proofs.running.memberships.hashed_numbers.Goals as goal

pub loop-number-preserved : goal.loop-number-preserved
loop-number-preserved c =
    let numbers = c.args.numbers.now in
    let i = c.loop-number.number-index in
    let z = get_or numbers i (pos 0) in
    let fits : FitsSigned w64 z = search rules in
    one_hashed int_eq int_eq_equiv.symm c.loop-number.set c.insert.new.self _ numbers i z (to_z-of_z w64 z fits) c.loop-number-test.true
    (get_or_default numbers i (pos 0) z c.loop-number-test.true) c.in_ok-insert.ensures.updates.0 c.loop-number.invariant

pub returns : goal.returns
returns c = λ z. c.loop-number.invariant z ∙ ap (has int_cmp z) (take_all c.loop-number.number-index c.args.numbers.now c.loop-number-test.false)
