use Rattle.td_tree.proofs.law_lemmas.LeastCauses.{least_is_named}
use Rattle.td_tree.proofs.laws.the_least_cause_is_named.Goals as goal

pub returns : goal.returns
returns c = least_is_named
