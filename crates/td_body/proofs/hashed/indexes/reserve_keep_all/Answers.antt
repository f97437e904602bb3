use Rattle.std.proofs.Common.{◌+◌, arith, refl, set}
use Rattle.td_body.specs.code.KeyIndexes.{CanKeep}
use Rattle.td_body.specs.code.Turns.{Stays}
use Rattle.td_body.proofs.Turns.{turn_begin, turn_end, turn_on, turn_stop, room_more}
use Rattle.td_body.proofs.hashed.indexes.reserve_keep_all.Goals as goal

pub loop-place-init : goal.loop-place-init
loop-place-init c = record { turned = turn_begin (Stays) c.args.indexes.now; room = λ k d low. absurd (omega (arith, low)) }

pub loop-place-preserved : goal.loop-place-preserved
loop-place-preserved c = record {
  turned = turn_on (Stays) c.args.indexes.now c.loop-place.indexes c.loop-place.place c.index-indexes-place.result c.reserve_keep.new.self c.loop-place.invariant.turned (omega (arith, c.loop-place.auto.indexes)) (record { index = c.reserve_keep.ensures.index; before = c.reserve_keep.ensures.before; places = c.reserve_keep.ensures.places });
  room = room_more CanKeep c.loop-place.indexes c.loop-place.place c.reserve_keep.new.self (omega (arith, c.loop-place.auto.indexes)) c.loop-place.invariant.room c.in_ok-reserve_keep.ensures.room;
}

pub returns-in_err-reserve_keep-clause-turned : goal.returns-in_err-reserve_keep-clause-turned
returns-in_err-reserve_keep-clause-turned c = turn_stop Stays c.args.indexes.now (λ x. record { index = λ rows gone i. i; before = refl; places = refl }) (set c.loop-place.indexes c.loop-place.place c.reserve_keep.new.self) (c.loop-place.place + 1)
    (turn_on (Stays) c.args.indexes.now c.loop-place.indexes c.loop-place.place c.index-indexes-place.result c.reserve_keep.new.self c.loop-place.invariant.turned (omega (arith, c.loop-place.auto.indexes)) (record { index = c.reserve_keep.ensures.index; before = c.reserve_keep.ensures.before; places = c.reserve_keep.ensures.places }))

pub returns-clause-turned : goal.returns-clause-turned
returns-clause-turned c = turn_end Stays c.args.indexes.now c.loop-place.indexes c.loop-place.place (omega (arith, c.loop-place.auto.indexes)) c.loop-place.invariant.turned

pub returns-clause-room : goal.returns-clause-room
returns-clause-room c = λ k d low. c.loop-place.invariant.room k d (omega (arith, low, c.loop-place.auto.indexes))
