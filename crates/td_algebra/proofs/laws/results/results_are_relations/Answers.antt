use Rattle.td_algebra.proofs.Results.{are_relations}
use Rattle.td_algebra.proofs.laws.results.results_are_relations.Goals as goal

pub returns : goal.returns
returns c = are_relations
