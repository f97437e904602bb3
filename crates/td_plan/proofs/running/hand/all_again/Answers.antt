use Rattle.std.proofs.Common.{◌∙◌, ap, map}
use Rattle.std.proofs.lemmas.List.{take_all}
use Rattle.td_plan.proofs.SlotLaws.{same_slots}
use Rattle.td_plan.specs.code.Hands.{cells_of}
use Rattle.td_plan.proofs.running.hand.all_again.Goals as goal

pub returns : goal.returns
returns c = same_slots c.loop-row.copy.items c.args.rows.now (c.loop-row.invariant ∙ ap (map cells_of) (take_all c.loop-row.row-index c.args.rows.now c.loop-row-test.false))
