use Rattle.td_check.specs.model.StatementTypes.{assignment_checked}
use Rattle.td_check.proofs.StatementAnswers.{asked_more, viewed_all}
use Rattle.td_tree.specs.code.TreeViews.{assignment_view}
use Rattle.td_check.proofs.statement.assignments.check_assignments.Goals as goal

pub loop-assignment-preserved : goal.loop-assignment-preserved
loop-assignment-preserved c =
    let l = c.loop-assignment in
    asked_more (λ a. assignment_checked c.args.scope.now (assignment_view a)) c.args.assignments.now _ l.assignment-index c.assignment-item.result c.loop-assignment-test.true c.assignment-item.is
    l.causes c.check_assignment.result c.in_ok-add.field-0 c.add.new.self l.invariant c.check_assignment.ensures c.in_ok-add.ensures.rest c.in_ok-add.ensures.cause

pub returns : goal.returns
returns c =
    viewed_all (assignment_checked c.args.scope.now) assignment_view c.args.assignments.now c.loop-assignment.assignment-index c.loop-assignment-test.false
    c.loop-assignment.causes c.finish.result c.finish.ensures c.loop-assignment.invariant
