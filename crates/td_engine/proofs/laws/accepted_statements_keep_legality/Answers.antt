use Rattle.td_engine.proofs.law_lemmas.KeptLegal.{accepted_keep_legal}
use Rattle.td_engine.proofs.laws.accepted_statements_keep_legality.Goals as goal

pub returns : goal.returns
returns c = accepted_keep_legal
