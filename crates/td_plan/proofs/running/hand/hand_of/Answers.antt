use Rattle.td_plan.proofs.SlotLaws.{slots_free}
use Rattle.td_plan.proofs.running.hand.hand_of.Goals as goal

pub returns : goal.returns
returns c = slots_free c.args.rows.now
