use Rattle.std.proofs.Common.{◌≡◌, [], drop, map}
use Rattle.td_engine.specs.model.Assignments.{given_by}
use Rattle.td_engine.specs.code.Changes.{AreChanges, given_in}
use Rattle.td_engine.specs.code.AssignedRelations.{AreAssigned}
use Rattle.td_tree.specs.code.TreeViews.{assignment_view}
use Rattle.td_engine.proofs.assignments.given_by.Given as goal

abbrev pub invariant-loop-assignment : goal.invariant-loop-assignment
invariant-loop-assignment g l =
    (given_by l.catalog.database [] (map assignment_view l.assignments)
    ≡ given_by l.catalog.database (given_in l.catalog.database l.given.entries) (map assignment_view (drop l.assignment-index l.assignments)))
    × AreChanges l.catalog.database l.given.entries
    × AreAssigned l.catalog.database (given_in l.catalog.database l.given.entries)
