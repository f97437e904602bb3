use Rattle.std.proofs.Common.{◌≡◌, map}
use Rattle.td_catalog.specs.model.Database.{with_bases}
use Rattle.td_engine.proofs.law_lemmas.InOrder.{IsLeft}
use Rattle.td_engine.specs.model.Assignments.{with_assigned}
use Rattle.td_engine.specs.model.Checks.{base_check}
use Rattle.td_engine.specs.code.AssignedRelations.{assigned_bases}
use Rattle.td_engine.specs.code.Stages.{GoesOn}
use Rattle.td_engine.specs.code.Changes.{given_in}
use Rattle.td_engine.proofs.assignments.put_all_assigned.Given as goal

abbrev pub ghost-put_assigned : goal.ghost-put_assigned
ghost-put_assigned g a = g.db

abbrev pub invariant-loop-place : goal.invariant-loop-place
invariant-loop-place g l =
    (l.catalog.database ≡ with_bases (assigned_bases (given_in g.db l.given.entries) l.place g.db.bases) g.db)
    × IsLeft base_check (map (with_assigned (given_in g.db l.given.entries)) g.db.bases) l.place
    × GoesOn l.fn.catalog l.catalog
