use Rattle.std.proofs.Common.{◌≡◌, ◌++◌, length}
use Rattle.td_tree.specs.model.TextTokens.{with_quotes_undoubled}
use Rattle.td_parse.proofs.word.with_quotes_undoubled.Given as goal

abbrev pub invariant-loop-rest : goal.invariant-loop-rest
invariant-loop-rest l = with_quotes_undoubled l.bytes ≡ l.said.items ++ with_quotes_undoubled l.rest

abbrev pub decreases-loop-rest : goal.decreases-loop-rest
decreases-loop-rest l = length l.rest
