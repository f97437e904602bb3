use Rattle.td_catalog.specs.model.Database.{without_type}
use Rattle.td_catalog.specs.model.Mentioned.{type_droppable}
use Rattle.td_engine.proofs.code_lemmas.Done.{dropped, goes}
use Rattle.td_engine.proofs.definitions.drop_type.Goals as goal

pub returns-clause-answer : goal.returns-clause-answer
returns-clause-answer g c =
    let db = c.args.catalog.now.database in
    dropped c.drop_type.result c.args.catalog.now c.drop_type.new.self (without_type c.args.name.now db) (type_droppable c.args.name.now db) c.drop_type.ensures.answer c.drop_type.ensures.dropped

pub returns-clause-on : goal.returns-clause-on
returns-clause-on g c =
    goes c.drop_type.result c.args.catalog.now c.drop_type.new.self (without_type c.args.name.now c.args.catalog.now.database) c.drop_type.ensures.dropped c.drop_type.ensures.unchanged
