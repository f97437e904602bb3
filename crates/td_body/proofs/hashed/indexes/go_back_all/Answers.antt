use Rattle.std.proofs.Common.{◌<◌, arith, length, subst, sym}
use Rattle.td_body.specs.declared.hashed.index.KeyIndex.{KeyIndex}
use Rattle.td_body.specs.code.Turns.{GoesBack}
use Rattle.td_body.proofs.Turns.{turn_begin, turn_end, turn_on}
use Rattle.td_body.proofs.hashed.indexes.go_back_all.Goals as goal

pub loop-place-init : goal.loop-place-init
loop-place-init c = turn_begin (GoesBack) c.args.indexes.now

pub loop-place-preserved : goal.loop-place-preserved
loop-place-preserved c = turn_on (GoesBack) c.args.indexes.now c.loop-place.indexes c.loop-place.place c.index-indexes-place.result c.go_back.new.self c.loop-place.invariant (omega (arith, c.loop-place.auto.indexes)) (record { linked = c.go_back.ensures.linked; before = c.go_back.ensures.before; places = c.go_back.ensures.places })

pub returns : goal.returns
returns c = turn_end (GoesBack) c.args.indexes.now c.loop-place.indexes c.loop-place.place (omega (arith, c.loop-place.auto.indexes)) c.loop-place.invariant

pub go_back-requires : goal.go_back-requires
go_back-requires c = subst (λ (x : KeyIndex). 0 < length x.clashes.before.items) (sym (c.loop-place.invariant.rest c.loop-place.place c.index-indexes-place.result (omega arith))) (c.requires c.loop-place.place c.index-indexes-place.result c.loop-place-test.true)
