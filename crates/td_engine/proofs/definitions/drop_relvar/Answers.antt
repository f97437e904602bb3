use Rattle.td_catalog.specs.model.Database.{without_relvar}
use Rattle.td_catalog.specs.model.Mentioned.{relvar_droppable}
use Rattle.td_engine.proofs.code_lemmas.Done.{dropped, goes}
use Rattle.td_engine.proofs.definitions.drop_relvar.Goals as goal

pub returns-clause-answer : goal.returns-clause-answer
returns-clause-answer g c =
    let db = c.args.catalog.now.database in
    dropped c.drop_var.result c.args.catalog.now c.drop_var.new.self (without_relvar c.args.name.now db) (relvar_droppable c.args.name.now db) c.drop_var.ensures.answer c.drop_var.ensures.dropped

pub returns-clause-on : goal.returns-clause-on
returns-clause-on g c =
    goes c.drop_var.result c.args.catalog.now c.drop_var.new.self (without_relvar c.args.name.now c.args.catalog.now.database) c.drop_var.ensures.dropped c.drop_var.ensures.unchanged
