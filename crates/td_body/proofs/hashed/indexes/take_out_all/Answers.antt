use Rattle.std.proofs.Common.{false, arith, set, subst, sym}
use Rattle.td_body.specs.code.KeyIndexes.{IsIndex}
use Rattle.td_body.specs.code.Turns.{Becomes}
use Rattle.td_body.proofs.Turns.{turn_begin, turn_end, turn_on}
use Rattle.td_body.proofs.hashed.indexes.take_out_all.Goals as goal

pub loop-place-init : goal.loop-place-init
loop-place-init c = turn_begin (Becomes c.args.rows.now.rows c.args.rows.now.gone) c.args.indexes.now

pub loop-place-preserved : goal.loop-place-preserved
loop-place-preserved c = turn_on (Becomes c.args.rows.now.rows c.args.rows.now.gone) c.args.indexes.now c.loop-place.indexes c.loop-place.place c.index-indexes-place.result c.take_out.new.self c.loop-place.invariant (omega (arith, c.loop-place.auto.indexes)) (record { index = c.take_out.ensures.index; before = c.take_out.ensures.before; places = c.take_out.ensures.places })

pub returns : goal.returns
returns c = turn_end (Becomes c.args.rows.now.rows c.args.rows.now.gone) c.args.indexes.now c.loop-place.indexes c.loop-place.place (omega (arith, c.loop-place.auto.indexes)) c.loop-place.invariant

pub take_out-requires-clause-index : goal.take_out-requires-clause-index
take_out-requires-clause-index c = subst (IsIndex c.args.rows.now.rows (set c.args.rows.now.gone c.args.number false)) (sym (c.loop-place.invariant.rest c.loop-place.place c.index-indexes-place.result (omega arith))) (c.requires.index c.loop-place.place c.index-indexes-place.result c.loop-place-test.true)
