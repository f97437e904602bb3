use Rattle.std.proofs.Common.{sym}
use Rattle.td_catalog.specs.model.Database.{named_constraint}
use Rattle.td_engine.proofs.code_lemmas.Plannables.{constraint_plannable}
use Rattle.td_engine.proofs.checks.check_last_constraint.Goals as goal

pub test_constraint-requires-clause-plannable : goal.test_constraint-requires-clause-plannable
test_constraint-requires-clause-plannable g c =
    constraint_plannable c.args.catalog.now.database c.reveal.ensures c.saturating_sub-place.result
    (named_constraint c.in-Some.name.now c.in-Some.condition.now) (sym c.in-Some.ensures)
