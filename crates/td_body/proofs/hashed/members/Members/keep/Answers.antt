use Rattle.std.proofs.Common.{◌≡◌, ◌∙◌, ◌∷◌, ◌++◌, [], ap, subst, sym}
use Rattle.td_body.specs.declared.hashed.step.Step.TheVariants.{Kept}
use Rattle.td_body.specs.code.Members.{AreMembers, places_in}
use Rattle.td_body.specs.code.Turns.{Keeps, Stays}
use Rattle.td_body.proofs.Turns.{turned_places}
use Rattle.td_body.proofs.StepLaws.{members_kept, members_same}
use Rattle.td_body.proofs.hashed.members.Members.keep.Goals as goal

pub returns-in_err-reserve_keep_every-clause-places : goal.returns-in_err-reserve_keep_every-clause-places
returns-in_err-reserve_keep_every-clause-places c = subst (λ s. places_in c.reserve_keep_every.new.indexes.items ≡ s.places) c.self.view_is
    (turned_places Stays c.self.inside.indexes.items c.reserve_keep_every.new.indexes.items c.reserve_keep_every.ensures.turned (λ x y s. s.places))

pub returns-clause-places : goal.returns-clause-places
returns-clause-places c = subst (λ s. places_in c.keep_every.new.indexes.items ≡ s.places) c.self.view_is
    (turned_places Keeps c.reserve_keep_every.new.indexes.items c.keep_every.new.indexes.items c.keep_every.ensures (λ x y s. s.places)
    ∙ turned_places Stays c.self.inside.indexes.items c.reserve_keep_every.new.indexes.items c.reserve_keep_every.ensures.turned (λ x y s. s.places))

pub invariant_of-self-2 : goal.invariant_of-self-2
invariant_of-self-2 c =
    let rows = c.self.inside.rows.rows in
    let gone = c.self.inside.rows.gone in
    let fixed = c.self.inside.rows.fixed in
    let a = c.reserve-2.new.self in
    let same : AreMembers rows gone fixed a.now a.before.items c.reserve_keep_every.new.indexes.items c.self.inside.log.items =
    members_same rows gone fixed c.self.inside.alive.now c.self.inside.alive.before.items c.self.inside.indexes.items c.self.inside.log.items c.self.invariant
    a.now a.before.items c.reserve_keep_every.new.indexes.items c.reserve-2.ensures.now c.reserve-2.ensures.before c.reserve_keep_every.ensures.turned in
    let kept = members_kept rows gone fixed a.now a.before.items c.reserve_keep_every.new.indexes.items c.self.inside.log.items same c.keep_every.new.indexes.items c.keep_every.ensures in
    subst (λ n. AreMembers rows gone fixed n c.keep.new.self.before.items c.keep_every.new.indexes.items c.note.new.items.items) (sym c.keep.ensures.now)
    (subst (λ b. AreMembers rows gone fixed a.now b c.keep_every.new.indexes.items c.note.new.items.items) (sym c.keep.ensures.before)
    (subst (λ l. AreMembers rows gone fixed a.now (a.before.items ++ a.now ∷ []) c.keep_every.new.indexes.items l) (sym (c.note.ensures.items ∙ ap (λ l. l ++ Kept ∷ []) c.reserve.ensures.items)) kept))
