use Rattle.std.proofs.Common.{◌∙◌, ap}
use Rattle.td_plan.proofs.SlotLaws.{slots_nothing}
use Rattle.td_plan.specs.code.Hands.{slots_in}
use Rattle.td_plan.proofs.running.hand.fill.Goals as goal

pub loop-rows-preserved : goal.loop-rows-preserved
loop-rows-preserved c = ap slots_in c.in_ok-push.ensures.items ∙ slots_nothing c.loop-rows.rows.items ∙ c.loop-rows.invariant
