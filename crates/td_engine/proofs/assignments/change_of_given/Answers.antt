use Rattle.std.proofs.Common.{subst, sym}
use Rattle.td_engine.proofs.code_lemmas.PlannableAssignments.{assignment_plannable}
use Rattle.td_engine.specs.code.AssignedRelations.{IsAssigned}
use Rattle.td_tree.specs.code.TreeViews.{assignment_view}
use Rattle.td_engine.proofs.assignments.change_of_given.Goals as goal

pub change-requires-clause-plannable : goal.change-requires-clause-plannable
change-requires-clause-plannable g c =
    let db = c.args.target.now.catalog.now.database in
    let r = c.args.relation.now in
    assignment_plannable db c.requires.legal r (assignment_view c.args.assignment.now) (subst (λ n. IsAssigned db (n, r)) (sym c.requires.named) c.requires.assigned) c.requires.admitted
