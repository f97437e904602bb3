use Rattle.td_engine.proofs.law_lemmas.Answered.{text_refused}
use Rattle.td_engine.proofs.legal_catalog.write.Goals as goal

pub returns-in-Err : goal.returns-in-Err
returns-in-Err c = text_refused _ c.args.text c.in-Err.fault c.answer_of_fault.result c.in-Err.is c.answer_of_fault.ensures.databases
