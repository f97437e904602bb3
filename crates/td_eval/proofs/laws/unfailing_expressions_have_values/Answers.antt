use Rattle.td_eval.proofs.law_lemmas.UnfailingTrees.{unfailing_expressions_have_values}
use Rattle.td_eval.proofs.laws.unfailing_expressions_have_values.Goals as goal

pub returns : goal.returns
returns c = unfailing_expressions_have_values
