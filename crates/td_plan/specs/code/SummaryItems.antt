-- What the items of SUMMARIZE ask (this project's own).
use Rattle.std.specs.Prelude.{List, [], ◌∷◌}
use Rattle.td_eval.specs.model.AggregateValues.{asked_of}
use Rattle.td_group.specs.declared.aggregates.Agg.{Agg}
use Rattle.td_group.specs.declared.aggregates.Agg.TheVariants as asked
use Rattle.td_tree.specs.model.Trees.{Summaries, no_summaries, counted, summed}

-- their aggregates, in the order written
abbrev pub aggregates_in : Summaries → List Agg
aggregates_in no_summaries = []
aggregates_in (counted n rest) = asked.Count ∷ aggregates_in rest
aggregates_in (summed op value n rest) = asked_of op ∷ aggregates_in rest
