use Rattle.std.proofs.Common.{◌≡◌, ◌-◌}
use Rattle.std.specs.Prelude.{map}
use Rattle.td_parse.specs.code.ReadingSteps.{read_renaming, list_by_commas, separated_from}
use Rattle.td_tree.specs.code.TreeViews.{renaming_view}
use Rattle.td_parse.proofs.names.renamings.Given as goal

-- what is left goes on from the renamings so far
abbrev pub invariant-loop-turn : goal.invariant-loop-turn
invariant-loop-turn l = list_by_commas read_renaming l.fn.tokens ≡ separated_from read_renaming (l.limit - l._turn) (map renaming_view l.items.items) l.tokens
