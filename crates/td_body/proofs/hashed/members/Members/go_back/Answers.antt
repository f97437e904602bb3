use Rattle.std.proofs.Common.{◌≡◌, ◌∙◌, ◌∷◌, ◌++◌, [], ◌<◌, ap, arith, length, map, subst, sym}
use Rattle.std.proofs.lemmas.List.{length-map, map-append}
use Rattle.td_value.specs.model.Values.{relation_view}
use Rattle.td_body.specs.declared.hashed.index.KeyIndex.{KeyIndex}
use Rattle.td_body.specs.code.Logs.{kept_by}
use Rattle.td_body.specs.code.Members.{places_in, tuples_of}
use Rattle.td_body.specs.code.Numbered.{live}
use Rattle.td_body.specs.code.Turns.{GoesBack}
use Rattle.td_body.proofs.Backs.{members_back}
use Rattle.td_body.proofs.StepLaws.{kept_many}
use Rattle.td_body.proofs.Turns.{turned_places}
use Rattle.td_body.proofs.hashed.members.Members.go_back.Goals as goal

pub undo_steps-requires-clause-kept : goal.undo_steps-requires-clause-kept
undo_steps-requires-clause-kept c =
    let rows = c.self.inside.rows in
    let log = c.self.inside.log.items in
    let sets = kept_by tuples_of log rows.rows rows.gone in
    let some : 0 < length (map (relation_view rows.heading) sets) = subst (λ s. 0 < length s.kept) (sym c.self.view_is) c.requires in
    let many = kept_many length tuples_of log rows.rows rows.gone in
    omega (arith, some, many, length-map sets (relation_view rows.heading))

pub invariant_of-self : goal.invariant_of-self
invariant_of-self c =
    let e = c.undo_steps.ensures in
    let r = c.undo_steps.new.rows in
    let xs = c.undo_steps.new.indexes.items in
    let some : 0 < length xs = omega (arith, c.self.invariant.some, ap length e.places, length-map xs (λ (index : KeyIndex). index.places.items), length-map c.self.inside.indexes.items (λ (index : KeyIndex). index.places.items)) in
    members_back r.rows r.gone r.fixed c.go_back.new.self.now c.go_back.new.self.before.items c.self.inside.alive.before.items xs c.go_back_every.new.indexes.items c.undo_steps.new.log.items
    e.marks e.apart e.proper (c.self.invariant.kept ∙ e.counts) c.go_back.ensures e.linked e.clashes c.go_back_every.ensures some

pub returns-clause-back : goal.returns-clause-back
returns-clause-back c =
    let e = c.undo_steps.ensures in
    let r = c.undo_steps.new.rows in
    let rows = c.self.inside.rows in
    let rest = kept_by tuples_of c.undo_steps.new.log.items r.rows r.gone in
    let set = tuples_of (live r.rows r.gone) in
    subst (λ s. s.kept ≡ map (relation_view r.heading) rest ++ relation_view r.heading set ∷ []) c.self.view_is
    ((λ i. map (relation_view (sym e.heading i)) (e.sets i)) ∙ map-append (relation_view r.heading) rest (set ∷ []))

pub returns-clause-places : goal.returns-clause-places
returns-clause-places c = subst (λ s. places_in c.go_back_every.new.indexes.items ≡ s.places) c.self.view_is
    (turned_places GoesBack c.undo_steps.new.indexes.items c.go_back_every.new.indexes.items c.go_back_every.ensures (λ x y s. s.places) ∙ c.undo_steps.ensures.places)
