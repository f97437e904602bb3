use Rattle.std.proofs.Common.{◌≡◌, ◌-◌, suc}
use Rattle.td_parse.specs.code.Reading.{read}
use Rattle.td_parse.specs.code.Walking.{tightness, walk}
use Rattle.td_tree.specs.code.TreeViews.{tree_view}
use Rattle.td_parse.proofs.grammar.Grammar.walk.Given as goal

-- what is left goes on from the operands so far
abbrev pub invariant-loop-turn : goal.invariant-loop-turn
invariant-loop-turn g l =
    walk (read l.self.depth) l.self.depth (tightness l.loosest) (suc l.self.depth) (tightness l.fn.tightest) (tree_view l.fn.first) l.fn.tokens
    ≡ walk (read l.self.depth) l.self.depth (tightness l.loosest) (l.limit - l._turn) (tightness l.tightest) (tree_view l.left) l.tokens
