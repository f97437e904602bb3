use Rattle.td_eval.proofs.law_lemmas.LiteralValues.{stored_literals_have_their_values}
use Rattle.td_eval.proofs.laws.stored_literals_have_their_values.Goals as goal

pub returns : goal.returns
returns c = stored_literals_have_their_values
