use Rattle.td_catalog.specs.model.Database.{without_constraint}
use Rattle.td_catalog.specs.model.Mentioned.{constraint_droppable}
use Rattle.td_engine.proofs.code_lemmas.Done.{dropped, goes}
use Rattle.td_engine.proofs.definitions.drop_constraint.Goals as goal

pub returns-clause-answer : goal.returns-clause-answer
returns-clause-answer g c =
    let db = c.args.catalog.now.database in
    dropped c.drop_constraint.result c.args.catalog.now c.drop_constraint.new.self (without_constraint c.args.name.now db) (constraint_droppable c.args.name.now db) c.drop_constraint.ensures.answer c.drop_constraint.ensures.dropped

pub returns-clause-on : goal.returns-clause-on
returns-clause-on g c =
    goes c.drop_constraint.result c.args.catalog.now c.drop_constraint.new.self (without_constraint c.args.name.now c.args.catalog.now.database) c.drop_constraint.ensures.dropped c.drop_constraint.ensures.unchanged
