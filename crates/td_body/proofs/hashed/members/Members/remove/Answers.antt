use Rattle.std.proofs.Common.{◌≡◌, ◌∙◌, ◌-◌, ◌∷◌, ◌++◌, [], is_some, false, true, ap, arith, map, set, subst, sym}
use Rattle.std.specs.List.{All}
use Rattle.td_value.specs.model.Values.{without_tuple, relation_view}
use Rattle.td_body.specs.declared.hashed.step.Step.TheVariants.{Dropped}
use Rattle.td_body.specs.code.KeyIndexes.{IsIndex}
use Rattle.td_body.specs.code.Numbered.{live}
use Rattle.td_body.specs.code.Logs.{kept_by}
use Rattle.td_body.specs.code.Members.{places_in, tuples_of, without}
use Rattle.td_body.specs.code.Turns.{Becomes, EachTurned}
use Rattle.td_body.proofs.Lives.{set_back}
use Rattle.td_body.proofs.Turns.{turned_places}
use Rattle.td_body.proofs.StepLaws.{dropped_count, dropped_set, find_has, kept-dropped, members_dropped, members_moved}
use Rattle.td_body.proofs.TupleSets.{ascends-set, has_tuple, taken_again}
use Rattle.td_body.proofs.hashed.members.Members.remove.Goals as goal

pub returns-in_default-clause-there : goal.returns-in_default-clause-there
returns-in_default-clause-there c = subst (λ s. false ≡ has_tuple c.args.tuple.now s.relation.body) c.self.view_is
    (ap is_some (sym c.in_default.is)
    ∙ find_has c.self.inside.rows.rows c.self.inside.rows.gone c.args.tuple.now c.find_near.result c.self.invariant.marks c.find_near.ensures.within c.find_near.ensures.there c.find_near.ensures.same c.find_near.ensures.none)

pub returns-in_default-clause-relation : goal.returns-in_default-clause-relation
returns-in_default-clause-relation c = subst (λ s. s.relation ≡ without_tuple c.args.tuple.now s.relation) c.self.view_is
    (ap (relation_view c.self.inside.rows.heading) (sym (taken_again c.args.tuple.now _ (ascends-set (live c.self.inside.rows.rows c.self.inside.rows.gone))
    (sym (ap is_some (sym c.in_default.is)
    ∙ find_has c.self.inside.rows.rows c.self.inside.rows.gone c.args.tuple.now c.find_near.result c.self.invariant.marks c.find_near.ensures.within c.find_near.ensures.there c.find_near.ensures.same c.find_near.ensures.none)))))

pub overflow_sub-self : goal.overflow_sub-self
overflow_sub-self c =
    let count = dropped_count c.self.inside.rows.rows c.self.inside.rows.gone c.self.inside.rows.fixed c.self.inside.alive.now c.self.inside.alive.before.items c.self.inside.indexes.items c.self.inside.log.items c.self.invariant
    c.in-Some.number c.in-Some.ensures.within c.in-Some.ensures.there c.args.tuple.now in
    omega (arith, count)

pub take_out_every-requires-clause-index : goal.take_out_every-requires-clause-index
take_out_every-requires-clause-index c =
    let same : set c.mark.new.self.gone c.in-Some.number false ≡ c.self.inside.rows.gone = ap (λ g. set g c.in-Some.number false) c.mark.ensures.gone ∙ set_back c.self.inside.rows.gone c.in-Some.number c.in-Some.ensures.there in
    subst (λ r. All (IsIndex r (set c.mark.new.self.gone c.in-Some.number false)) c.self.inside.indexes.items) (sym c.mark.ensures.rows)
    (subst (λ g. All (IsIndex c.self.inside.rows.rows g) c.self.inside.indexes.items) (sym same) c.self.invariant.indexed)

pub invariant_of-self-2 : goal.invariant_of-self-2
invariant_of-self-2 c =
    let rows = c.self.inside.rows in
    let n = c.in-Some.number in
    let turned : EachTurned (Becomes rows.rows (set rows.gone n true)) c.self.inside.indexes.items c.take_out_every.new.indexes.items =
    subst (λ r. EachTurned (Becomes r (set rows.gone n true)) c.self.inside.indexes.items c.take_out_every.new.indexes.items) c.mark.ensures.rows
    (subst (λ g. EachTurned (Becomes c.mark.new.self.rows g) c.self.inside.indexes.items c.take_out_every.new.indexes.items) c.mark.ensures.gone c.take_out_every.ensures) in
    members_moved rows.rows c.mark.new.self.rows (set rows.gone n true) c.mark.new.self.gone rows.fixed c.mark.new.self.fixed (c.self.inside.alive.now - 1) c.self.inside.alive.before.items
    c.take_out_every.new.indexes.items (c.self.inside.log.items ++ Dropped n ∷ []) c.push.new.self.items c.mark.ensures.rows c.mark.ensures.gone c.mark.ensures.fixed c.in_ok-push.ensures.items
    (members_dropped rows.rows rows.gone rows.fixed c.self.inside.alive.now c.self.inside.alive.before.items c.self.inside.indexes.items c.self.inside.log.items c.self.invariant
    n c.in-Some.ensures.within c.in-Some.ensures.there c.args.tuple.now c.take_out_every.new.indexes.items turned)

pub returns-clause-there : goal.returns-clause-there
returns-clause-there c = subst (λ s. true ≡ has_tuple c.args.tuple.now s.relation.body) c.self.view_is
    (ap is_some (sym c.in-Some.is)
    ∙ find_has c.self.inside.rows.rows c.self.inside.rows.gone c.args.tuple.now c.find_near.result c.self.invariant.marks c.find_near.ensures.within c.find_near.ensures.there c.find_near.ensures.same c.find_near.ensures.none)

pub returns-clause-relation : goal.returns-clause-relation
returns-clause-relation c =
    let rows = c.self.inside.rows in
    let new = c.mark.new.self in
    let set : tuples_of (live new.rows new.gone) ≡ without c.args.tuple.now (tuples_of (live rows.rows rows.gone)) =
    (λ i. tuples_of (live (c.mark.ensures.rows i) (c.mark.ensures.gone i)))
    ∙ dropped_set rows.rows rows.gone rows.fixed c.self.inside.alive.now c.self.inside.alive.before.items c.self.inside.indexes.items c.self.inside.log.items c.self.invariant
    c.in-Some.number c.in-Some.ensures.within c.in-Some.ensures.there c.args.tuple.now
    ∙ ap (λ r. without r (tuples_of (live rows.rows rows.gone))) c.in-Some.ensures.same in
    subst (λ s. relation_view new.heading (tuples_of (live new.rows new.gone)) ≡ without_tuple c.args.tuple.now s.relation) c.self.view_is
    (λ i. relation_view (c.mark.ensures.heading i) (set i))

pub returns-clause-kept : goal.returns-clause-kept
returns-clause-kept c =
    let rows = c.self.inside.rows in
    let new = c.mark.new.self in
    let kept : kept_by tuples_of c.push.new.self.items new.rows new.gone ≡ kept_by tuples_of c.self.inside.log.items rows.rows rows.gone =
    (λ i. kept_by tuples_of (c.in_ok-push.ensures.items i) (c.mark.ensures.rows i) (c.mark.ensures.gone i))
    ∙ kept-dropped tuples_of c.self.inside.log.items rows.rows rows.gone c.in-Some.number c.in-Some.ensures.there in
    subst (λ s. map (relation_view new.heading) (kept_by tuples_of c.push.new.self.items new.rows new.gone) ≡ s.kept) c.self.view_is
    (λ i. map (relation_view (c.mark.ensures.heading i)) (kept i))

pub returns-clause-places : goal.returns-clause-places
returns-clause-places c = subst (λ s. places_in c.take_out_every.new.indexes.items ≡ s.places) c.self.view_is
    (turned_places (Becomes c.mark.new.self.rows c.mark.new.self.gone) c.self.inside.indexes.items c.take_out_every.new.indexes.items c.take_out_every.ensures (λ x y s. s.places))
