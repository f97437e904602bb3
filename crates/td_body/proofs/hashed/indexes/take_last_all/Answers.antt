use Rattle.std.proofs.Common.{◌∷◌, ◌++◌, [], arith, subst, sym}
use Rattle.td_body.specs.code.KeyIndexes.{IsLinked}
use Rattle.td_body.specs.code.Turns.{Drops}
use Rattle.td_body.proofs.Turns.{turn_begin, turn_end, turn_on}
use Rattle.td_body.proofs.hashed.indexes.take_last_all.Goals as goal

pub loop-place-init : goal.loop-place-init
loop-place-init c = turn_begin (Drops c.args.tuple.now) c.args.indexes.now

pub loop-place-preserved : goal.loop-place-preserved
loop-place-preserved c = turn_on (Drops c.args.tuple.now) c.args.indexes.now c.loop-place.indexes c.loop-place.place c.index-indexes-place.result c.take_last.new.self c.loop-place.invariant (omega (arith, c.loop-place.auto.indexes)) (record { linked = c.take_last.ensures.linked; before = c.take_last.ensures.before; places = c.take_last.ensures.places })

pub returns : goal.returns
returns c = turn_end (Drops c.args.tuple.now) c.args.indexes.now c.loop-place.indexes c.loop-place.place (omega (arith, c.loop-place.auto.indexes)) c.loop-place.invariant

pub take_last-requires : goal.take_last-requires
take_last-requires c = (c.requires.0, c.requires.1, c.requires.2, subst (IsLinked (c.requires.0 ++ c.args.tuple.now ∷ []) c.requires.1) (sym (c.loop-place.invariant.rest c.loop-place.place c.index-indexes-place.result (omega arith))) (c.requires.3 c.loop-place.place c.index-indexes-place.result c.loop-place-test.true))
