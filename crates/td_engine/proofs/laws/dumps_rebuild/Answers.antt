use Rattle.td_engine.proofs.law_lemmas.DumpLaws.{dumps_rebuild}
use Rattle.td_engine.proofs.laws.dumps_rebuild.Goals as goal

pub returns : goal.returns
returns c = dumps_rebuild
