use Rattle.std.proofs.Common.{◌≡◌, ℕ, suc, ◌+◌, ◌-◌, ap, arith, sym}
use Rattle.std.proofs.lemmas.Result.{err_from_is_err_and}
use Rattle.td_parse.specs.code.Reading.{postfixes, read}
use Rattle.td_tree.specs.code.TreeViews.{tree_view}
use Rattle.td_parse.proofs.LoopTurns.{goes_on_behind, turns_away_behind}
use Rattle.td_parse.proofs.grammar.Grammar.postfixes.Goals as goal

pub loop-turn-init : goal.loop-turn-init
loop-turn-init g c =
    let e : suc c.args.self.now.depth ≡ c.from-limit.result + 1 - 0 = omega (arith, c.from-limit.ensures) in
    ap (λ (n : ℕ). postfixes (read c.args.self.now.depth) c.args.self.now.depth n (tree_view c.args.first) c.args.tokens.now) e

pub loop-turn-preserved : goal.loop-turn-preserved
loop-turn-preserved g c = goes_on_behind (read c.args.self.now.depth) c.args.self.now.depth _ _ _ _ _ _ _ _ _ _ _ c.loop-turn-test.true c.loop-turn.invariant (sym c.if-not-begins_postfix.ensures) c.postfix-op.ensures c.in_ok-operand.ensures c.in_ok-postfix.ensures c.in_ok-left.ensures

pub returns-in_err-left : goal.returns-in_err-left
returns-in_err-left g c =
    let p = err_from_is_err_and c.from_residual-in_err-left.result c.from_residual-in_err-left.ensures.1 in
    rw (p.1, p.2)
    (turns_away_behind (read c.args.self.now.depth) c.args.self.now.depth _ _ _ _ _ _ _ _ _ _ c.in_err-left.field-0.0 c.loop-turn-test.true c.loop-turn.invariant (sym c.if-not-begins_postfix.ensures) c.postfix-op.ensures c.in_ok-operand.ensures c.in_ok-postfix.ensures c.in_err-left.ensures)
