use Rattle.std.proofs.Common.{◌∙◌, Some, ap, map}
use Rattle.std.proofs.lemmas.List.{take_all}
use Rattle.std.specs.Borrow.{Bor}
use Rattle.td_plan.proofs.SlotLaws.{tuple_slots}
use Rattle.td_value.specs.model.Values.{Tuple}
use Rattle.td_plan.proofs.running.run_plan.tuples_in_slots.Goals as goal

pub returns : goal.returns
returns c =
    tuple_slots c.loop-tuple.rows.items c.args.tuples.now
    (c.loop-tuple.invariant ∙ ap (map (λ (t : Bor Tuple). Some t.now)) (take_all c.loop-tuple.tuple-index c.args.tuples.now c.loop-tuple-test.false))
