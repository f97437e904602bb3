use Rattle.std.proofs.Common.{[], ◌≡◌, map, subst, sym}
use Rattle.td_engine.proofs.code_lemmas.GivenChanges.{all_typed}
use Rattle.td_engine.proofs.law_lemmas.TypedAssigned.{given_typed}
use Rattle.td_engine.proofs.law_lemmas.WrittenStatements.{statement_written}
use Rattle.td_engine.specs.model.Assignments.{given_by}
use Rattle.td_engine.specs.code.Carried.{IsAdmitted}
use Rattle.td_engine.specs.code.Changes.{given_in}
use Rattle.td_tree.specs.model.Outcomes.{Valued}
use Rattle.td_tree.specs.code.TreeViews.{assignment_view}
use Rattle.td_tree.specs.model.Trees.{assign_all}
use Rattle.td_engine.proofs.assignments.assign.Goals as goal

pub given_by-requires-clause-admitted : goal.given_by-requires-clause-admitted
given_by-requires-clause-admitted g c =
    subst (λ xs. IsAdmitted c.args.catalog.now.database (assign_all (map assignment_view xs))) (sym c.deref.ensures.value) c.requires.admitted

pub assign_each-requires-clause-typed : goal.assign_each-requires-clause-typed
assign_each-requires-clause-typed g c =
    let db = c.args.catalog.now.database in
    let legal = c.requires.legal in
    let es = c.in-Ok.given.entries in
    given_typed db legal.typed (map assignment_view c.args.assignments.items) (given_in db es)
    (statement_written (assign_all (map assignment_view c.args.assignments.items)) c.requires.admitted.spelled) c.requires.admitted.checked
    (subst (λ xs. given_by db [] (map assignment_view xs) ≡ Valued (given_in db es)) c.deref.ensures.value c.in-Ok.ensures.answer)

pub assign_each-requires-clause-all_assigned : goal.assign_each-requires-clause-all_assigned
assign_each-requires-clause-all_assigned g c =
    let db = c.args.catalog.now.database in
    let legal = c.requires.legal in
    let es = c.in-Ok.given.entries in
    all_typed db es c.in-Ok.ensures.changes
    (given_typed db legal.typed (map assignment_view c.args.assignments.items) (given_in db es)
    (statement_written (assign_all (map assignment_view c.args.assignments.items)) c.requires.admitted.spelled) c.requires.admitted.checked
    (subst (λ xs. given_by db [] (map assignment_view xs) ≡ Valued (given_in db es)) c.deref.ensures.value c.in-Ok.ensures.answer))
