use Rattle.std.proofs.Common.{◌≡◌, ◌∙◌, ◌+◌, Some, ap, drop, map, sym}
use Rattle.std.specs.List.{slice_get}
use Rattle.std.proofs.lemmas.Option.{slice_get-get_or}
use Rattle.td_engine.proofs.law_lemmas.EachOf.{of_place}
use Rattle.td_engine.proofs.law_lemmas.AssignedInTurn.{given_refused}
use Rattle.td_engine.proofs.law_lemmas.InOrder.{drop_next}
use Rattle.td_engine.proofs.code_lemmas.PlannableAssignments.{all_admitted}
use Rattle.td_engine.proofs.law_lemmas.TypedAssigned.{given_more}
use Rattle.td_engine.specs.model.Assignments.{given_by, with_assignment}
use Rattle.td_engine.specs.code.Changes.{given_in}
use Rattle.td_engine.specs.code.Plannable.{IsAdmittedAssignment}
use Rattle.td_tree.specs.declared.statement.Assignment.{Assignment}
use Rattle.td_tree.specs.model.Outcomes.{Valued, with_value}
use Rattle.td_tree.specs.code.TreeViews.{assignment_view}
use Rattle.td_engine.proofs.assignments.given_by.Goals as goal

pub returns-in-Err-clause-answer : goal.returns-in-Err-clause-answer
returns-in-Err-clause-answer g c =
    let db = c.args.catalog.now.database in
    given_refused db (given_in db c.loop-assignment.given.entries) c.args.assignments.now c.loop-assignment.assignment-index c.assignment-item.result
    c.in-Err.fault c.loop-assignment-test.true c.assignment-item.is c.loop-assignment.invariant.0 c.in-Err.ensures.answer

pub assign_one-requires-clause-admitted : goal.assign_one-requires-clause-admitted
assign_one-requires-clause-admitted g c =
    let db = c.args.catalog.now.database in
    let xs = c.args.assignments.now in
    let i = c.loop-assignment.assignment-index in
    let at : slice_get xs i ≡ Some c.assignment-item.result = slice_get-get_or xs i c.assignment-item.result c.loop-assignment-test.true ∙ ap Some (sym c.assignment-item.is) in
    of_place (λ (x : Assignment). IsAdmittedAssignment db (assignment_view x)) xs i c.assignment-item.result
    (all_admitted db c.requires.legal xs c.requires.admitted) at

pub loop-assignment-preserved : goal.loop-assignment-preserved
loop-assignment-preserved g c =
    let db = c.args.catalog.now.database in
    let legal = c.requires.legal in
    let xs = c.args.assignments.now in
    let i = c.loop-assignment.assignment-index in
    let x = c.assignment-item.result in
    let so_far = given_in db c.loop-assignment.given.entries in
    let at : slice_get xs i ≡ Some x = slice_get-get_or xs i x c.loop-assignment-test.true ∙ ap Some (sym c.assignment-item.is) in
    let is = of_place (λ (x : Assignment). IsAdmittedAssignment db (assignment_view x)) xs i x (all_admitted db legal xs c.requires.admitted) at in
    let next : with_assignment db so_far (assignment_view x) ≡ Valued (given_in db c.assign_one.new.given.entries) = c.in-Ok.ensures.answer in (
      c.loop-assignment.invariant.0 ∙ ap (λ ys. given_by db so_far (map assignment_view ys)) (drop_next xs i x at)
          ∙ ap (λ o. with_value o (λ given. given_by db given (map assignment_view (drop (i + 1) xs)))) next,
      c.in-Ok.ensures.changes,
      given_more db legal.typed so_far (given_in db c.assign_one.new.given.entries) (assignment_view x) c.loop-assignment.invariant.2
          is.written is.checked next,
    )
