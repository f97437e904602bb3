use Rattle.std.proofs.Common.{arith, subst, sym}
use Rattle.td_body.specs.code.KeyIndexes.{CanKeep}
use Rattle.td_body.specs.code.Turns.{Keeps}
use Rattle.td_body.proofs.Turns.{turn_begin, turn_end, turn_on}
use Rattle.td_body.proofs.hashed.indexes.keep_all.Goals as goal

pub loop-place-init : goal.loop-place-init
loop-place-init c = turn_begin (Keeps) c.args.indexes.now

pub loop-place-preserved : goal.loop-place-preserved
loop-place-preserved c = turn_on (Keeps) c.args.indexes.now c.loop-place.indexes c.loop-place.place c.index-indexes-place.result c.keep.new.self c.loop-place.invariant (omega (arith, c.loop-place.auto.indexes)) (record { index = c.keep.ensures.index; before = c.keep.ensures.before; places = c.keep.ensures.places })

pub returns : goal.returns
returns c = turn_end (Keeps) c.args.indexes.now c.loop-place.indexes c.loop-place.place (omega (arith, c.loop-place.auto.indexes)) c.loop-place.invariant

pub keep-requires : goal.keep-requires
keep-requires c = subst (CanKeep) (sym (c.loop-place.invariant.rest c.loop-place.place c.index-indexes-place.result (omega arith))) (c.requires c.loop-place.place c.index-indexes-place.result c.loop-place-test.true)
