use Rattle.std.proofs.Common.{◌∙◌, ap, refl, subst, sym}
use Rattle.std.proofs.lemmas.Int.{to_z-of_z}
use Rattle.std.specs.Ordering.{int_cmp}
use mir.Syntax.{w64}
use Rattle.td_plan.proofs.Memberships.{is_behind_all, is_between, stands_there}
use Rattle.td_plan.specs.code.Memberships.{AreAllBelow}
use Rattle.td_plan.proofs.running.memberships.told_at.Goals as goal

pub returns-in-None : goal.returns-in-None
returns-in-None c =
    let members = c.args.members.now in
    let before = subst (AreAllBelow members c.args.place) (to_z-of_z w64 c.args.number c.ranges.number) (c.if-not-is_behind.ensures refl) in
    sym (is_behind_all members c.args.place c.args.number before c.in-None.ensures.lookup.3)

pub returns-in-Equal : goal.returns-in-Equal
returns-in-Equal c =
    sym (stands_there c.args.members.now c.args.place c.args.number c.in-Some.member.now c.in-Some.ensures.lookup.3
    (ap (int_cmp c.in-Some.member.now) (sym (to_z-of_z w64 c.args.number c.ranges.number)) ∙ sym c.in-Equal.ensures))

pub returns-in-Greater : goal.returns-in-Greater
returns-in-Greater c =
    let members = c.args.members.now in
    let before = subst (AreAllBelow members c.args.place) (to_z-of_z w64 c.args.number c.ranges.number) (c.if-not-is_behind.ensures refl) in
    sym (is_between members c.args.place c.args.number c.in-Some.member.now c.requires before c.in-Some.ensures.lookup.3
    (ap (int_cmp c.in-Some.member.now) (sym (to_z-of_z w64 c.args.number c.ranges.number)) ∙ sym c.in-Greater.ensures))
