use Rattle.std.proofs.Common.{◌∷◌, ◌++◌, [], false, arith, subst, sym}
use Rattle.td_body.specs.code.KeyIndexes.{HasRoom, IsIndex}
use Rattle.td_body.specs.code.Turns.{Becomes}
use Rattle.td_body.proofs.Turns.{turn_begin, turn_end, turn_on}
use Rattle.td_body.proofs.hashed.indexes.put_in_all.Goals as goal

pub loop-place-init : goal.loop-place-init
loop-place-init c = turn_begin (Becomes (c.args.rows.now.rows ++ c.args.tuple.now ∷ []) (c.args.rows.now.gone ++ false ∷ [])) c.args.indexes.now

pub loop-place-preserved : goal.loop-place-preserved
loop-place-preserved c = turn_on (Becomes (c.args.rows.now.rows ++ c.args.tuple.now ∷ []) (c.args.rows.now.gone ++ false ∷ [])) c.args.indexes.now c.loop-place.indexes c.loop-place.place c.index-indexes-place.result c.put_in.new.self c.loop-place.invariant (omega (arith, c.loop-place.auto.indexes)) (record { index = c.put_in.ensures.index; before = c.put_in.ensures.before; places = c.put_in.ensures.places })

pub returns : goal.returns
returns c = turn_end (Becomes (c.args.rows.now.rows ++ c.args.tuple.now ∷ []) (c.args.rows.now.gone ++ false ∷ [])) c.args.indexes.now c.loop-place.indexes c.loop-place.place (omega (arith, c.loop-place.auto.indexes)) c.loop-place.invariant

pub put_in-requires-clause-index : goal.put_in-requires-clause-index
put_in-requires-clause-index c = subst (IsIndex c.args.rows.now.rows c.args.rows.now.gone) (sym (c.loop-place.invariant.rest c.loop-place.place c.index-indexes-place.result (omega arith))) (c.requires.index c.loop-place.place c.index-indexes-place.result c.loop-place-test.true)

pub put_in-requires-clause-room : goal.put_in-requires-clause-room
put_in-requires-clause-room c = subst (HasRoom) (sym (c.loop-place.invariant.rest c.loop-place.place c.index-indexes-place.result (omega arith))) (c.requires.room c.loop-place.place c.index-indexes-place.result c.loop-place-test.true)
