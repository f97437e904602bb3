use Rattle.std.proofs.Common.{◌≡◌, ◌∙◌, ◌++◌, ◌∷◌, [], ap, map, subst, sym, take}
use Rattle.std.proofs.lemmas.List.{map-append, take_all, take_more}
use Rattle.std.specs.HashSet.{contains}
use Rattle.std.specs.List.{All}
use Rattle.std.specs.Ordering.{eq_by_cmp}
use Rattle.td_value.specs.model.Sets.{has}
use Rattle.td_value.specs.model.Values.{IsTupleOf, Tuple, tuple_cmp}
use Rattle.td_plan.proofs.Memberships.{members_in_rows}
use Rattle.td_plan.proofs.Granted.{granted, pushed}
use Rattle.td_plan.proofs.running.memberships.members_among.Goals as goal

pub loop-tuple-preserved : goal.loop-tuple-preserved
loop-tuple-preserved c =
    let body = c.args.rel.now.body in
    let tuples = c.args.tuples.now in
    let i = c.loop-tuple.tuple-index in
    let tuple = c.tuple-item.result in
    let next = take_more tuples i tuple c.loop-tuple-test.true ∙ ap (λ u. take i tuples ++ u ∷ []) (sym c.tuple-item.is) in
    let found = c.contains.ensures ∙ granted c.hashed_tuples.result c.in_ok-members.members (λ set. (t : Tuple) → contains (eq_by_cmp tuple_cmp) set t ≡ has tuple_cmp t c.rows.result.now) c.in_ok-members.ensures.value c.hashed_tuples.ensures tuple ∙ ap (has tuple_cmp tuple) c.rows.ensures.rows in
    pushed _ _ c.in_ok-ok.ensures.variant c.push.ensures.items ∙ (λ j. c.loop-tuple.invariant j ++ found j ∷ [])
    ∙ sym (map-append (λ u. has tuple_cmp u body) (take i tuples) (tuple ∷ [])) ∙ ap (map (λ u. has tuple_cmp u body)) (sym next)

pub returns : goal.returns
returns c = λ f ts found.
    let rel = c.args.rel.now in
    let all = subst (λ h. All (IsTupleOf h) c.args.tuples.now) c.heading.ensures (c.have_heading.ensures.0 c.if-not-have_heading.false) in
    members_in_rows rel f ts c.args.tuples.now c.loop-tuple.truths.items all found
    (c.loop-tuple.invariant ∙ ap (map (λ u. has tuple_cmp u rel.body)) (take_all c.loop-tuple.tuple-index c.args.tuples.now c.loop-tuple-test.false))
