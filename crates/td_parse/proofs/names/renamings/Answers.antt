use Rattle.td_tree.specs.code.TreeViews.{renaming_view}
use Rattle.td_parse.proofs.Separated.{begins, ends, goes_on, ran_out}
use Rattle.td_parse.proofs.names.renamings.Goals as goal

pub loop-turn-init : goal.loop-turn-init
loop-turn-init c = begins _ renaming_view _ _ _ c.turns-limit.ensures c.new-items.ensures.items

pub loop-turn-preserved : goal.loop-turn-preserved
loop-turn-preserved c = goes_on _ renaming_view _ _ _ _ _ c.in_ok-renaming.field-0 _ _ _ c.loop-turn-test.true c.loop-turn.invariant c.in_ok-renaming.ensures c.if-not-sign.ensures c.in_ok-push.ensures.items

pub returns-then-not-sign : goal.returns-then-not-sign
returns-then-not-sign c = ends _ renaming_view _ _ _ _ _ c.in_ok-renaming.field-0 _ _ _ c.loop-turn-test.true c.loop-turn.invariant c.in_ok-renaming.ensures c.if-not-sign.ensures c.in_ok-push.ensures.items

pub returns : goal.returns
returns c = ran_out _ renaming_view _ _ _ _ _ c.loop-turn-test.false c.loop-turn.invariant
