use Rattle.std.proofs.Common.{◌∙◌, ap, sym}
use Rattle.std.proofs.lemmas.Int.{to_z-of_z}
use Rattle.std.specs.Ordering.{int_cmp}
use mir.Syntax.{w64}
use Rattle.td_plan.proofs.Memberships.{are_before, less_from_test}
use Rattle.td_plan.proofs.running.memberships.is_behind.Goals as goal

pub returns-in-Some : goal.returns-in-Some
returns-in-Some c = λ told.
    let number = c.args.number in
    are_before c.args.members.now c.args.place number c.in-Some.member.now c.requires c.in-Some.ensures.lookup.3
    (ap (int_cmp c.in-Some.member.now) (sym (to_z-of_z w64 number c.ranges.number)) ∙ sym c.cmp.ensures
    ∙ less_from_test c.cmp.result (sym c.is_lt.ensures ∙ told))
