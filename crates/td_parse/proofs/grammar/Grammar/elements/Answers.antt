use Rattle.std.proofs.Common.{◌∙◌}
use Rattle.td_parse.proofs.Separated.{begins, ends, goes_on, ran_out}
use Rattle.td_parse.proofs.grammar.Grammar.elements.Goals as goal

pub loop-turn-init : goal.loop-turn-init
loop-turn-init g c = begins _ _ _ _ _ c.turns-limit.ensures c.new-items.ensures

pub loop-turn-preserved : goal.loop-turn-preserved
loop-turn-preserved g c = goes_on _ _ _ _ _ _ _ _ _ _ _ c.loop-turn-test.true c.loop-turn.invariant c.in_ok-expression.ensures c.if-not-sign.ensures c.in_ok-push.ensures

pub returns-then-not-sign : goal.returns-then-not-sign
returns-then-not-sign g c = ends _ _ _ _ _ _ _ _ _ _ _ c.loop-turn-test.true c.loop-turn.invariant c.in_ok-expression.ensures c.if-not-sign.ensures (c.complete.ensures ∙ c.in_ok-push.ensures)

pub returns : goal.returns
returns g c = ran_out _ _ _ _ _ _ _ c.loop-turn-test.false c.loop-turn.invariant
