use Rattle.std.proofs.Common.{◌≡◌, ◌∙◌, ◌∷◌, [], ap, refl, subst, sym}
use Rattle.td_catalog.specs.model.Database.{Database}
use Rattle.td_engine.proofs.law_lemmas.AssignedInTurn.{bases_refused}
use Rattle.td_engine.proofs.law_lemmas.Settled.{bases_hold}
use Rattle.td_engine.specs.model.Assignments.{with_all_assigned}
use Rattle.td_engine.proofs.code_lemmas.ConstraintPlanLaws.{kept_after, kept_before}
use Rattle.td_engine.specs.code.Carried.{Changes}
use Rattle.td_engine.specs.code.ConstraintPlans.{AreKeptPlans}
use Rattle.td_engine.specs.code.AssignedRelations.{AreAssigned}
use Rattle.td_engine.specs.code.Changes.{AreTypedChanges, given_as, given_in}
use Rattle.td_catalog.specs.model.TypedDatabases.{IsTyped}
use Rattle.td_engine.proofs.code_lemmas.AddedTuples.{additions}
use Rattle.td_engine.specs.laws.Additions.{AreAdditions}
use Rattle.td_engine.specs.model.Checks.{BasesHold}
use Rattle.std.specs.Map.{keys_of}
use Rattle.td_engine.proofs.law_lemmas.TypedAfter.{all_assigned_typed}
use Rattle.td_engine.proofs.code_lemmas.UnreachedChecks.{all_assigned_pass_elsewhere, same_targets}
use Rattle.td_engine.specs.laws.LeftOut.{PassesElsewhere}
use Rattle.td_eval.specs.laws.ReachedRelvars.{reached_from}
use Rattle.td_engine.specs.model.Machine.{checked_effect}
use Rattle.td_engine.proofs.assignments.assign_each.Goals as goal

pub change_bases-requires : goal.change_bases-requires
change_bases-requires g c = λ κs within. (within, ((refl, c.reveal.ensures, bases_hold c.args.catalog.now.database c.requires.legal), c.requires.all_assigned))

pub settle_all_assigned-requires-clause-held : goal.settle_all_assigned-requires-clause-held
settle_all_assigned-requires-clause-held g c = subst BasesHold (sym c.in-Ok.ensures.next) c.in-Ok.ensures.check

pub settle_all_assigned-requires-clause-elsewhere : goal.settle_all_assigned-requires-clause-elsewhere
settle_all_assigned-requires-clause-elsewhere g c =
    let db = c.args.catalog.now.database in
    let es = c.args.given.now.entries in
    let given = given_in db es in
    subst (λ (m : Database). PassesElsewhere (reached_from (keys_of es) m.virtuals) m) (sym c.in-Ok.ensures.next)
    (subst (λ names. PassesElsewhere (reached_from names db.virtuals) (with_all_assigned given db)) (same_targets db es)
    (all_assigned_pass_elsewhere db given c.requires.legal (all_assigned_typed db given c.requires.legal c.requires.typed)))

pub settle_all_assigned-requires-clause-added : goal.settle_all_assigned-requires-clause-added
settle_all_assigned-requires-clause-added g c = λ relvar change is is_relation.
    let db = c.args.catalog.now.database in
    let es = c.args.given.now.entries in
    let only : with_all_assigned (given_in db es) db ≡ with_all_assigned ((relvar, given_as db relvar change) ∷ []) db = ap (λ fs. with_all_assigned (given_in db fs) db) is in
    let typed = subst IsTyped only (all_assigned_typed db (given_in db es) c.requires.legal c.requires.typed) in
    subst (λ (m : Database). AreAdditions (reached_from (relvar ∷ []) m.virtuals) m (relvar, change.add)) (sym (c.in-Ok.ensures.next ∙ only))
    (additions db c.requires.legal relvar change (subst (AreTypedChanges db) is c.requires.all_assigned).0 is_relation typed
    (subst (λ fs. AreAssigned db (given_in db fs)) is c.requires.typed))

pub returns-in-Ok-clause-change : goal.returns-in-Ok-clause-change
returns-in-Ok-clause-change g c =
    subst (λ (db : Database). Changes c.change_bases.new.catalog.database c.settle_all_assigned.result (checked_effect db)) c.in-Ok.ensures.next c.settle_all_assigned.ensures.change

pub settle_all_assigned-requires-clause-plans : goal.settle_all_assigned-requires-clause-plans
settle_all_assigned-requires-clause-plans g c =
    let db = c.args.catalog.now.database in
    let given = given_in db c.args.given.now.entries in
    subst (λ (m : Database). AreKeptPlans m c.args.plans.now.items) (sym c.in-Ok.ensures.next)
    (kept_after db given c.requires.legal c.requires.typed c.args.plans.now.items c.requires.plans)

pub returns-in-Ok-clause-before : goal.returns-in-Ok-clause-before
returns-in-Ok-clause-before g c =
    let db = c.args.catalog.now.database in
    let given = given_in db c.args.given.now.entries in
    kept_before db given c.requires.legal c.requires.typed c.settle_all_assigned.new.plans.items
    (subst (λ (m : Database). AreKeptPlans m c.settle_all_assigned.new.plans.items) c.in-Ok.ensures.next c.settle_all_assigned.ensures.plans)

pub returns-in-Err-clause-change : goal.returns-in-Err-clause-change
returns-in-Err-clause-change g c =
    bases_refused c.change_bases.new.catalog.database (with_all_assigned (given_in c.args.catalog.now.database c.args.given.now.entries) c.args.catalog.now.database) c.in-Err.failure c.in-Err.ensures.check
