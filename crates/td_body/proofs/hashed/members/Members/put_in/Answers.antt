use Rattle.std.proofs.Common.{◌≡◌, ◌∙◌, ◌+◌, ◌∷◌, ◌++◌, [], false, ap, arith, length, map, refl, subst, sym}
use Rattle.td_value.specs.model.Values.{with_tuple, relation_view}
use Rattle.td_body.specs.declared.hashed.step.Step.TheVariants.{Added}
use Rattle.td_body.specs.code.Numbered.{live}
use Rattle.td_body.specs.code.Logs.{kept_by}
use Rattle.td_body.specs.code.Members.{AreMembers, places_in, put_tuple, tuples_of}
use Rattle.td_body.specs.code.Turns.{Becomes, Stays}
use Rattle.td_body.proofs.Lives.{live_more}
use Rattle.td_body.proofs.RowSteps.{few_live}
use Rattle.td_body.proofs.Turns.{turned_places}
use Rattle.td_body.proofs.StepLaws.{kept-added, members_added, members_moved, members_same, set_more}
use Rattle.td_body.proofs.TupleSets.{has-set, has_tuple}
use Rattle.td_body.proofs.hashed.members.Members.put_in.Goals as goal

pub invariant_of-self-in_err-reserve_every : goal.invariant_of-self-in_err-reserve_every
invariant_of-self-in_err-reserve_every c =
    let rows = c.self.inside.rows in
    members_moved rows.rows c.reserve-2.new.self.rows rows.gone c.reserve-2.new.self.gone rows.fixed c.reserve-2.new.self.fixed c.self.inside.alive.now c.self.inside.alive.before.items
    c.reserve_every.new.indexes.items c.self.inside.log.items c.reserve.new.self.items c.reserve-2.ensures.rows c.reserve-2.ensures.gone c.reserve-2.ensures.fixed c.reserve.ensures.items
    (members_same rows.rows rows.gone rows.fixed c.self.inside.alive.now c.self.inside.alive.before.items c.self.inside.indexes.items c.self.inside.log.items c.self.invariant
    c.self.inside.alive.now c.self.inside.alive.before.items c.reserve_every.new.indexes.items refl refl c.reserve_every.ensures.turned)

pub returns-in_err-reserve_every-clause-places : goal.returns-in_err-reserve_every-clause-places
returns-in_err-reserve_every-clause-places c = subst (λ s. places_in c.reserve_every.new.indexes.items ≡ s.places) c.self.view_is
    (turned_places Stays c.self.inside.indexes.items c.reserve_every.new.indexes.items c.reserve_every.ensures.turned (λ x y s. s.places))

pub overflow_add-self : goal.overflow_add-self
overflow_add-self c =
    let few = few_live c.self.inside.rows.rows c.self.inside.rows.gone in
    omega (arith, few, c.self.invariant.counted, c.count-count.ensures.count, c.count-count.ensures.small, ap length c.reserve-2.ensures.rows)

pub invariant_of-self-2 : goal.invariant_of-self-2
invariant_of-self-2 c =
    let rows = c.self.inside.rows in
    let tuple = c.args.tuple.now in
    let r = c.reserve-2.new.self in
    let p = c.push.new.self in
    let t : AreMembers r.rows r.gone r.fixed c.self.inside.alive.now c.self.inside.alive.before.items c.reserve_every.new.indexes.items c.self.inside.log.items =
    members_moved rows.rows r.rows rows.gone r.gone rows.fixed r.fixed c.self.inside.alive.now c.self.inside.alive.before.items
    c.reserve_every.new.indexes.items c.self.inside.log.items c.self.inside.log.items c.reserve-2.ensures.rows c.reserve-2.ensures.gone c.reserve-2.ensures.fixed refl
    (members_same rows.rows rows.gone rows.fixed c.self.inside.alive.now c.self.inside.alive.before.items c.self.inside.indexes.items c.self.inside.log.items c.self.invariant
    c.self.inside.alive.now c.self.inside.alive.before.items c.reserve_every.new.indexes.items refl refl c.reserve_every.ensures.turned) in
    let absent : has_tuple tuple (live r.rows r.gone) ≡ false =
    (λ i. has_tuple tuple (live (c.reserve-2.ensures.rows i) (c.reserve-2.ensures.gone i))) ∙ sym (has-set tuple (live rows.rows rows.gone))
    ∙ subst (λ s. has_tuple tuple s.relation.body ≡ false) (sym c.self.view_is) c.requires.new in
    members_moved (r.rows ++ tuple ∷ []) p.rows (r.gone ++ false ∷ []) p.gone r.fixed p.fixed (c.self.inside.alive.now + 1) c.self.inside.alive.before.items
    c.put_in_every.new.indexes.items (c.self.inside.log.items ++ Added ∷ []) c.note.new.items.items (c.push.ensures.rows ∙ ap (λ t. r.rows ++ t ∷ []) c.in_ok-copy.ensures) c.push.ensures.gone c.push.ensures.fixed (c.note.ensures.items ∙ ap (λ l. l ++ Added ∷ []) c.reserve.ensures.items)
    (members_added r.rows r.gone r.fixed c.self.inside.alive.now c.self.inside.alive.before.items c.reserve_every.new.indexes.items c.self.inside.log.items t
    tuple c.put_in_every.new.indexes.items c.count-count.ensures.fixed absent c.put_in_every.ensures)

pub returns-clause-relation : goal.returns-clause-relation
returns-clause-relation c =
    let rows = c.self.inside.rows in
    let tuple = c.args.tuple.now in
    let p = c.push.new.self in
    let set : tuples_of (live p.rows p.gone) ≡ put_tuple tuple (tuples_of (live rows.rows rows.gone)) =
    (λ i. tuples_of (live (c.push.ensures.rows i) (c.push.ensures.gone i)))
    ∙ (λ i. tuples_of (live (c.reserve-2.ensures.rows i ++ c.in_ok-copy.ensures i ∷ []) (c.reserve-2.ensures.gone i ++ false ∷ [])))
    ∙ ap tuples_of (live_more rows.rows rows.gone tuple c.self.invariant.marks)
    ∙ set_more (live rows.rows rows.gone) tuple in
    subst (λ s. relation_view p.heading (tuples_of (live p.rows p.gone)) ≡ with_tuple tuple s.relation) c.self.view_is
    (λ i. relation_view ((c.push.ensures.heading ∙ c.reserve-2.ensures.heading) i) (set i))

pub returns-clause-kept : goal.returns-clause-kept
returns-clause-kept c =
    let rows = c.self.inside.rows in
    let tuple = c.args.tuple.now in
    let p = c.push.new.self in
    let kept : kept_by tuples_of c.note.new.items.items p.rows p.gone ≡ kept_by tuples_of c.self.inside.log.items rows.rows rows.gone =
    (λ i. kept_by tuples_of (c.note.ensures.items i) (c.push.ensures.rows i) (c.push.ensures.gone i))
    ∙ (λ i. kept_by tuples_of (c.in_ok-reserve.ensures.items i ++ Added ∷ []) (c.reserve-2.ensures.rows i ++ c.in_ok-copy.ensures i ∷ []) (c.reserve-2.ensures.gone i ++ false ∷ []))
    ∙ kept-added tuples_of c.self.inside.log.items rows.rows rows.gone tuple in
    subst (λ s. map (relation_view p.heading) (kept_by tuples_of c.note.new.items.items p.rows p.gone) ≡ s.kept) c.self.view_is
    (λ i. map (relation_view ((c.push.ensures.heading ∙ c.reserve-2.ensures.heading) i)) (kept i))

pub returns-clause-places : goal.returns-clause-places
returns-clause-places c = subst (λ s. places_in c.put_in_every.new.indexes.items ≡ s.places) c.self.view_is
    (turned_places (Becomes (c.reserve-2.new.self.rows ++ c.args.tuple.now ∷ []) (c.reserve-2.new.self.gone ++ false ∷ [])) c.reserve_every.new.indexes.items c.put_in_every.new.indexes.items c.put_in_every.ensures (λ x y s. s.places)
    ∙ turned_places Stays c.self.inside.indexes.items c.reserve_every.new.indexes.items c.reserve_every.ensures.turned (λ x y s. s.places))
