use Rattle.std.proofs.Common.{arith}
use Rattle.td_body.specs.code.Turns.{Forgets}
use Rattle.td_body.proofs.Turns.{turn_begin, turn_end, turn_on}
use Rattle.td_body.proofs.hashed.indexes.forget_all.Goals as goal

pub loop-place-init : goal.loop-place-init
loop-place-init c = turn_begin (Forgets) c.args.indexes.now

pub loop-place-preserved : goal.loop-place-preserved
loop-place-preserved c = turn_on (Forgets) c.args.indexes.now c.loop-place.indexes c.loop-place.place c.index-indexes-place.result c.forget.new.self c.loop-place.invariant (omega (arith, c.loop-place.auto.indexes)) (record { index = c.forget.ensures.index; before = c.forget.ensures.before; places = c.forget.ensures.places })

pub returns : goal.returns
returns c = turn_end (Forgets) c.args.indexes.now c.loop-place.indexes c.loop-place.place (omega (arith, c.loop-place.auto.indexes)) c.loop-place.invariant
