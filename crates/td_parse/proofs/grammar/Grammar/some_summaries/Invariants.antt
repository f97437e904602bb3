use Rattle.std.proofs.Common.{◌≡◌, ◌-◌, map}
use Rattle.td_parse.specs.code.ReadingSteps.{list_by_commas, separated_from}
use Rattle.td_parse.specs.code.Reading.{read, summary}
use Rattle.td_parse.specs.code.Views.{item_view}
use Rattle.td_parse.proofs.grammar.Grammar.some_summaries.Given as goal

-- what is left goes on from the attributes so far
abbrev pub invariant-loop-turn : goal.invariant-loop-turn
invariant-loop-turn g l = list_by_commas (summary (read l.self.depth) l.self.depth) l.fn.tokens ≡ separated_from (summary (read l.self.depth) l.self.depth) (l.limit - l._turn) (map item_view l.items) l.tokens
