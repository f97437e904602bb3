use Rattle.std.proofs.Common.{◌≡◌, ◌-◌, suc}
use Rattle.td_parse.specs.code.Reading as reading
use Rattle.td_parse.specs.code.Reading.{read}
use Rattle.td_tree.specs.code.TreeViews.{tree_view}
use Rattle.td_parse.proofs.grammar.Grammar.postfixes.Given as goal

-- what is left goes on from the operand so far
abbrev pub invariant-loop-turn : goal.invariant-loop-turn
invariant-loop-turn g l =
    reading.postfixes (read l.self.depth) l.self.depth (suc l.self.depth) (tree_view l.fn.first) l.fn.tokens
    ≡ reading.postfixes (read l.self.depth) l.self.depth (l.limit - l._turn) (tree_view l.left) l.tokens
