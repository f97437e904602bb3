use Rattle.std.proofs.Common.{subst, sym}
use Rattle.td_catalog.specs.model.Database.{named_constraint}
use Rattle.td_engine.specs.code.ConstraintPlans.{AreKeptPlans}
use Rattle.td_engine.proofs.checks.check_constraint.Goals as goal

pub test_after-requires-clause-plan : goal.test_after-requires-clause-plan
test_after-requires-clause-plan g c =
    let db = c.args.catalog.now.database in
    c.plan_at.ensures db (named_constraint c.args.name.now c.args.condition.now)
    (subst (AreKeptPlans db) (sym c.deref.ensures.value) (c.keep_plan.ensures c.requires.plans)) c.requires.place
