use Rattle.std.proofs.Common.{◌+◌, arith, refl, set}
use Rattle.td_body.specs.code.KeyIndexes.{HasRoom}
use Rattle.td_body.specs.code.Turns.{Stays}
use Rattle.td_body.proofs.Turns.{turn_begin, turn_end, turn_on, turn_stop, room_more}
use Rattle.td_body.proofs.hashed.indexes.reserve_all.Goals as goal

pub loop-place-init : goal.loop-place-init
loop-place-init c = record { turned = turn_begin (Stays) c.args.indexes.now; room = λ k d low. absurd (omega (arith, low)) }

pub loop-place-preserved : goal.loop-place-preserved
loop-place-preserved c = record {
  turned = turn_on (Stays) c.args.indexes.now c.loop-place.indexes c.loop-place.place c.index-indexes-place.result c.reserve.new.self c.loop-place.invariant.turned (omega (arith, c.loop-place.auto.indexes)) (record { index = c.reserve.ensures.index; before = c.reserve.ensures.before; places = c.reserve.ensures.places });
  room = room_more HasRoom c.loop-place.indexes c.loop-place.place c.reserve.new.self (omega (arith, c.loop-place.auto.indexes)) c.loop-place.invariant.room c.in_ok-reserve.ensures.room;
}

pub returns-in_err-reserve-clause-turned : goal.returns-in_err-reserve-clause-turned
returns-in_err-reserve-clause-turned c = turn_stop Stays c.args.indexes.now (λ x. record { index = λ rows gone i. i; before = refl; places = refl }) (set c.loop-place.indexes c.loop-place.place c.reserve.new.self) (c.loop-place.place + 1)
    (turn_on (Stays) c.args.indexes.now c.loop-place.indexes c.loop-place.place c.index-indexes-place.result c.reserve.new.self c.loop-place.invariant.turned (omega (arith, c.loop-place.auto.indexes)) (record { index = c.reserve.ensures.index; before = c.reserve.ensures.before; places = c.reserve.ensures.places }))

pub returns-clause-turned : goal.returns-clause-turned
returns-clause-turned c = turn_end Stays c.args.indexes.now c.loop-place.indexes c.loop-place.place (omega (arith, c.loop-place.auto.indexes)) c.loop-place.invariant.turned

pub returns-clause-room : goal.returns-clause-room
returns-clause-room c = λ k d low. c.loop-place.invariant.room k d (omega (arith, low, c.loop-place.auto.indexes))
