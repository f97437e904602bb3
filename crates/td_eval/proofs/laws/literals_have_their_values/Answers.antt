use Rattle.td_eval.proofs.law_lemmas.LiteralTypes.{literals_have_their_types}
use Rattle.td_eval.proofs.law_lemmas.LiteralValues.{literals_have_their_values}
use Rattle.td_eval.proofs.laws.literals_have_their_values.Goals as goal

pub returns-clause-types : goal.returns-clause-types
returns-clause-types c = literals_have_their_types

pub returns-clause-values : goal.returns-clause-values
returns-clause-values c = literals_have_their_values
