use Rattle.std.proofs.Common.{map, take}
use Rattle.td_check.specs.model.StatementTypes.{assignment_checked}
use Rattle.td_check.proofs.StatementAnswers.{asked_of}
use Rattle.td_tree.specs.code.Gatherings.{IsGathered}
use Rattle.td_tree.specs.code.TreeViews.{assignment_view}
use Rattle.td_check.proofs.statement.assignments.check_assignments.Given as goal

abbrev pub invariant-loop-assignment : goal.invariant-loop-assignment
invariant-loop-assignment l =
    IsGathered l.causes (asked_of (take l.assignment-index l.assignments))
    (map (λ a. assignment_checked l.scope (assignment_view a)) (take l.assignment-index l.assignments))
