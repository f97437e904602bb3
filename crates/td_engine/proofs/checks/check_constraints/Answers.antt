use Rattle.std.proofs.Common.{sym}
use Rattle.td_catalog.specs.model.Database.{named_constraint}
use Rattle.td_engine.specs.model.Checks.{constraint_check}
use Rattle.td_engine.specs.laws.LeftOut.{PassesUnlessNamed}
use Rattle.td_engine.proofs.law_lemmas.EachOf.{of_place}
use Rattle.td_engine.proofs.law_lemmas.InOrder.{passed_next, refusal_at}
use Rattle.td_engine.proofs.code_lemmas.AddedTuples.{tested_at}
use Rattle.td_engine.proofs.code_lemmas.Plannables.{constraint_plannable}
use Rattle.td_eval.specs.model.DatabaseWorlds.{world_of}
use Rattle.td_engine.proofs.checks.check_constraints.Goals as goal

pub check_constraint-requires-clause-plannable : goal.check_constraint-requires-clause-plannable
check_constraint-requires-clause-plannable g c =
    constraint_plannable c.args.catalog.now.database c.reveal.ensures c.loop-place.place
    (named_constraint c.in-Some.name.now c.in-Some.condition.now) (sym c.in-Some.ensures)

pub check_constraint-requires-clause-elsewhere : goal.check_constraint-requires-clause-elsewhere
check_constraint-requires-clause-elsewhere g c =
    let db = c.args.catalog.now.database in
    of_place (PassesUnlessNamed c.args.reached.now (world_of db)) db.constraints c.loop-place.place (named_constraint c.in-Some.name.now c.in-Some.condition.now)
    c.requires.elsewhere (sym c.in-Some.ensures)

pub check_constraint-requires-clause-added : goal.check_constraint-requires-clause-added
check_constraint-requires-clause-added g c =
    let db = c.args.catalog.now.database in
    tested_at c.args.reached.now db c.loop-place.place (named_constraint c.in-Some.name.now c.in-Some.condition.now) c.args.added
    (sym c.in-Some.ensures) c.requires.added

pub check_constraint-requires-clause-place : goal.check_constraint-requires-clause-place
check_constraint-requires-clause-place g c = sym c.in-Some.ensures

pub check_constraint-requires-clause-plans : goal.check_constraint-requires-clause-plans
check_constraint-requires-clause-plans g c = c.loop-place.invariant.1

pub returns-in-Err-clause-passed : goal.returns-in-Err-clause-passed
returns-in-Err-clause-passed g c =
    let db = c.args.catalog.now.database in
    let k = named_constraint c.in-Some.name.now c.in-Some.condition.now in
    refusal_at (constraint_check (world_of db)) db.constraints c.loop-place.place k c.in-Err.failure c.loop-place.invariant.0 (sym c.in-Some.ensures) c.in-Err.ensures.passed

pub loop-place-preserved : goal.loop-place-preserved
loop-place-preserved g c =
    let db = c.args.catalog.now.database in
    let k = named_constraint c.in-Some.name.now c.in-Some.condition.now in (
      passed_next (constraint_check (world_of db)) db.constraints c.loop-place.place k c.loop-place.invariant.0 (sym c.in-Some.ensures) c.in-Ok.ensures.passed,
      c.check_constraint.ensures.plans,
    )
