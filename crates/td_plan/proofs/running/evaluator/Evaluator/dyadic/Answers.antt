use Rattle.std.proofs.Common.{arith}
use Rattle.td_plan.proofs.ValuedBelow.{lower}
use Rattle.td_plan.proofs.running.evaluator.Evaluator.dyadic.Goals as goal

pub run-first-requires-clause-below : goal.run-first-requires-clause-below
run-first-requires-clause-below g c = lower (omega arith) c.requires.below

pub run-first-requires-clause-ready : goal.run-first-requires-clause-ready
run-first-requires-clause-ready g c = let r = c.requires.ready in record { parts = r.parts; sound = r.sound.0; memo = r.memo }

pub run-second-requires-clause-below : goal.run-second-requires-clause-below
run-second-requires-clause-below g c = lower (omega arith) c.requires.below

pub run-second-requires-clause-ready : goal.run-second-requires-clause-ready
run-second-requires-clause-ready g c =
    let r = c.requires.ready in
    record { parts = r.parts; sound = r.sound.1; memo = (c.run-first.ensures r.parts r.sound.0 r.memo).1 }

pub returns : goal.returns
returns g c = λ ps sound m.
    let a = c.run-first.ensures ps sound.0 m in
    let b = c.run-second.ensures ps sound.1 a.1 in
    (c.value_of_dyadic.ensures _ _ a.0 b.0, b.1)
