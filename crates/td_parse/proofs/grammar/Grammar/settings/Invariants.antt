use Rattle.std.proofs.Common.{◌≡◌, ◌-◌, map}
use Rattle.td_parse.specs.code.ReadingSteps.{list_by_commas, separated_from}
use Rattle.td_parse.specs.code.Reading.{setting, read}
use Rattle.td_parse.specs.code.Views.{named_part_view}
use Rattle.td_parse.proofs.grammar.Grammar.settings.Given as goal

-- what is left goes on from the settings so far
abbrev pub invariant-loop-turn : goal.invariant-loop-turn
invariant-loop-turn g l = list_by_commas (setting (read l.self.depth) l.self.depth) l.fn.tokens ≡ separated_from (setting (read l.self.depth) l.self.depth) (l.limit - l._turn) (map named_part_view l.items) l.tokens
