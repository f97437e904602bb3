use Rattle.td_eval.proofs.law_lemmas.ProjectedSummaries.{summarize_by_is_per_of_the_projection}
use Rattle.td_eval.proofs.laws.summarize_by_is_per_of_the_projection.Goals as goal

pub returns : goal.returns
returns c = summarize_by_is_per_of_the_projection
