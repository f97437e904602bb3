use Rattle.td_parse.specs.code.Views.{attribute_tree_view}
use Rattle.td_parse.proofs.Separated.{begins, ends, goes_on, ran_out}
use Rattle.td_parse.proofs.types.+types.Goals as goal

pub attributes-loop-turn-init : goal.attributes-loop-turn-init
attributes-loop-turn-init t c = begins _ attribute_tree_view _ _ _ c.turns-limit.ensures c.new-items.ensures.items

pub attributes-loop-turn-preserved : goal.attributes-loop-turn-preserved
attributes-loop-turn-preserved t c = goes_on _ attribute_tree_view _ _ _ _ _ c.in_ok-attribute.field-0 _ _ _ c.loop-turn-test.true c.loop-turn.invariant c.in_ok-attribute.ensures c.if-not-sign.ensures c.in_ok-push.ensures.items

pub attributes-returns-then-not-sign : goal.attributes-returns-then-not-sign
attributes-returns-then-not-sign t c = ends _ attribute_tree_view _ _ _ _ _ c.in_ok-attribute.field-0 _ _ _ c.loop-turn-test.true c.loop-turn.invariant c.in_ok-attribute.ensures c.if-not-sign.ensures c.in_ok-push.ensures.items

pub attributes-returns : goal.attributes-returns
attributes-returns t c = ran_out _ attribute_tree_view _ _ _ _ _ c.loop-turn-test.false c.loop-turn.invariant
