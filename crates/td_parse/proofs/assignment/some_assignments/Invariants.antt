use Rattle.std.proofs.Common.{◌≡◌, ◌-◌, map}
use Rattle.td_parse.specs.code.ReadingSteps.{list_by_commas, separated_from}
use Rattle.td_parse.specs.code.ReadingStatements.{assignment}
use Rattle.td_tree.specs.code.TreeViews.{assignment_view}
use Rattle.td_parse.proofs.assignment.some_assignments.Given as goal

-- what is left goes on from the assignments so far
abbrev pub invariant-loop-turn : goal.invariant-loop-turn
invariant-loop-turn l = list_by_commas assignment l.fn.tokens ≡ separated_from assignment (l.limit - l._turn) (map assignment_view l.items.items) l.tokens
