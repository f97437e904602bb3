use Rattle.std.proofs.Common.{arith, subst, sym}
use Rattle.td_body.specs.code.KeyIndexes.{IsLinked}
use Rattle.td_body.specs.code.Turns.{Links}
use Rattle.td_body.proofs.Turns.{turn_begin, turn_end, turn_on}
use Rattle.td_body.proofs.hashed.indexes.link_all.Goals as goal

pub loop-place-init : goal.loop-place-init
loop-place-init c = turn_begin (Links c.args.rows.now.rows c.args.rows.now.gone c.args.number) c.args.indexes.now

pub loop-place-preserved : goal.loop-place-preserved
loop-place-preserved c = turn_on (Links c.args.rows.now.rows c.args.rows.now.gone c.args.number) c.args.indexes.now c.loop-place.indexes c.loop-place.place c.index-indexes-place.result c.link.new.self c.loop-place.invariant (omega (arith, c.loop-place.auto.indexes)) (record { linked = c.link.ensures.linked; before = c.link.ensures.before; places = c.link.ensures.places })

pub returns : goal.returns
returns c = turn_end (Links c.args.rows.now.rows c.args.rows.now.gone c.args.number) c.args.indexes.now c.loop-place.indexes c.loop-place.place (omega (arith, c.loop-place.auto.indexes)) c.loop-place.invariant

pub link-requires-clause-linked : goal.link-requires-clause-linked
link-requires-clause-linked c = subst (IsLinked c.args.rows.now.rows c.args.rows.now.gone) (sym (c.loop-place.invariant.rest c.loop-place.place c.index-indexes-place.result (omega arith))) (c.requires.linked c.loop-place.place c.index-indexes-place.result c.loop-place-test.true)
