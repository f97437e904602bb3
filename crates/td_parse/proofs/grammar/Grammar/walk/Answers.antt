use Rattle.std.proofs.lemmas.Result.{err_from_is_err_and}
use Rattle.td_parse.specs.code.Reading.{read}
use Rattle.td_parse.proofs.LoopTurns.{goes_on, turns_away}
use Rattle.td_parse.proofs.grammar.Grammar.walk.Goals as goal

pub returns-in_err-left : goal.returns-in_err-left
returns-in_err-left g c =
    let p = err_from_is_err_and c.from_residual-in_err-left.result c.from_residual-in_err-left.ensures.1 in
    rw (p.1, p.2)
    (turns_away (read c.args.self.now.depth) c.args.self.now.depth _ _ _ _ _ _ _ _ _ _ _ _ _ _ _ _ c.in_err-left.field-0.0 c.loop-turn-test.true c.loop-turn.invariant c.in-Some.ensures c.level.ensures c.tighter.ensures c.inner-right.ensures c.in_ok-operand.ensures c.in_ok-of_infix.ensures c.in_err-left.ensures)

pub loop-turn-preserved : goal.loop-turn-preserved
loop-turn-preserved g c = goes_on (read c.args.self.now.depth) c.args.self.now.depth _ _ _ _ _ _ _ _ _ _ _ _ _ _ _ _ _ _ c.loop-turn-test.true c.loop-turn.invariant c.in-Some.ensures c.level.ensures c.tighter.ensures c.inner-right.ensures c.in_ok-operand.ensures c.in_ok-of_infix.ensures c.in_ok-left.ensures c.tightest_after-tightest.ensures
