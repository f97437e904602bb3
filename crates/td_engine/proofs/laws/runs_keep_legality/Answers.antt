use Rattle.td_engine.proofs.law_lemmas.LegalRuns.{runs_keep_legal}
use Rattle.td_engine.proofs.laws.runs_keep_legality.Goals as goal

pub returns : goal.returns
returns c = runs_keep_legal
