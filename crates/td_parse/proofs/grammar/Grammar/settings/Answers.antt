use Rattle.td_parse.proofs.Separated.{begins, ends, goes_on, ran_out}
use Rattle.td_parse.specs.code.Views.{named_part_view}
use Rattle.td_parse.proofs.grammar.Grammar.settings.Goals as goal

pub loop-turn-init : goal.loop-turn-init
loop-turn-init g c = begins _ named_part_view _ _ _ c.turns-limit.ensures c.new-items.ensures

pub loop-turn-preserved : goal.loop-turn-preserved
loop-turn-preserved g c = goes_on _ named_part_view _ _ _ _ _ (record { name = c.in_ok-name.name; value = c.in_ok-name.value }) _ _ _ c.loop-turn-test.true c.loop-turn.invariant c.in_ok-name.ensures c.if-not-sign.ensures c.in_ok-push.ensures

pub returns-then-not-sign : goal.returns-then-not-sign
returns-then-not-sign g c = ends _ named_part_view _ _ _ _ _ (record { name = c.in_ok-name.name; value = c.in_ok-name.value }) _ _ _ c.loop-turn-test.true c.loop-turn.invariant c.in_ok-name.ensures c.if-not-sign.ensures c.in_ok-push.ensures

pub returns : goal.returns
returns g c = ran_out _ named_part_view _ _ _ _ _ c.loop-turn-test.false c.loop-turn.invariant
