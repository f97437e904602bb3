use Rattle.std.proofs.Common.{rules, ◌<◌, ap, arith, get_or, length, subst, sym}
use Rattle.std.specs.Prelude.{IfSome}
use Rattle.td_algebra.proofs.Lookups.{length-next_places, step_gives, step_within}
use Rattle.td_algebra.proofs.lookup.PartnersIterator.next.Goals as goal
use Rattle.td_algebra.proofs.lookup.PartnersIterator.next.Goals.{After-lookup}

within : (c : After-lookup) → c.in_ok-place.place < length c.lookup.inside.rows.now
within c =
    subst (λ l. c.in_ok-place.place < length l.1) (sym c.lookup.view_is)
    (subst (λ o. IfSome o (λ place. place < length c.self.inside.lookup.now.1)) c.in_ok-place.was c.self.invariant)

pub index-requires : goal.index-requires
index-requires c =
    omega (
      arith,
      within c,
      c.lookup.inside.next.ok.0,
      ap length c.lookup.invariant.1,
      length-next_places c.lookup.inside.places.now 0 c.lookup.inside.rows.now,
    )

pub invariant_of-self : goal.invariant_of-self
invariant_of-self c =
    let inside = c.lookup.inside in
    let row = get_or inside.rows.now c.in_ok-place.place c.index-lookup-place.result in
    let within : c.in_ok-place.place < length inside.rows.now =
    subst (λ l. c.in_ok-place.place < length l.1) (sym c.lookup.view_is)
    (subst (λ o. IfSome o (λ place. place < length c.self.inside.lookup.now.1)) c.in_ok-place.was c.self.invariant) in
    step_within c.self.inside.lookup.now inside.places.now inside.rows.now inside.next.items c.in_ok-place.place c.index.result.now
    c.lookup.view_is c.lookup.invariant.1 within c.index.ensures row (ap (get_or inside.rows.now c.in_ok-place.place) c.index-lookup-place.is)

pub returns-clause-steps : goal.returns-clause-steps
returns-clause-steps c =
    let inside = c.lookup.inside in
    let row = get_or inside.rows.now c.in_ok-place.place c.index-lookup-place.result in
    let within : c.in_ok-place.place < length inside.rows.now =
    subst (λ l. c.in_ok-place.place < length l.1) (sym c.lookup.view_is)
    (subst (λ o. IfSome o (λ place. place < length c.self.inside.lookup.now.1)) c.in_ok-place.was c.self.invariant) in
    step_gives c.self.inside.lookup.now inside.places.now inside.rows.now inside.next.items c.in_ok-place.place c.index.result.now
    c.lookup.view_is c.lookup.invariant.1 within c.index.ensures row c.args.self.now c.self.inside.place
    (ap (get_or inside.rows.now c.in_ok-place.place) c.index-lookup-place.is) c.self.view_is c.in_ok-place.was

pub returns-clause-goes : goal.returns-clause-goes
returns-clause-goes c =
    let inside = c.lookup.inside in
    let row = get_or inside.rows.now c.in_ok-place.place c.index-lookup-place.result in
    let within : c.in_ok-place.place < length inside.rows.now =
    subst (λ l. c.in_ok-place.place < length l.1) (sym c.lookup.view_is)
    (subst (λ o. IfSome o (λ place. place < length c.self.inside.lookup.now.1)) c.in_ok-place.was c.self.invariant) in
    let step = step_gives c.self.inside.lookup.now inside.places.now inside.rows.now inside.next.items c.in_ok-place.place c.index.result.now
    c.lookup.view_is c.lookup.invariant.1 within c.index.ensures row c.args.self.now c.self.inside.place
    (ap (get_or inside.rows.now c.in_ok-place.place) c.index-lookup-place.is) c.self.view_is c.in_ok-place.was in
    let shorter = ap length step in search rules
