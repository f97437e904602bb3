use Rattle.std.proofs.Common.{◌≡◌, ◌-◌}
use Rattle.td_parse.specs.code.ReadingSteps.{read_name, list_by_commas, separated_from}
use Rattle.td_parse.proofs.names.some_names.Given as goal

-- what is left goes on from the names so far
abbrev pub invariant-loop-turn : goal.invariant-loop-turn
invariant-loop-turn l = list_by_commas read_name l.fn.tokens ≡ separated_from read_name (l.limit - l._turn) l.items.items l.tokens
