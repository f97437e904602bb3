use Rattle.std.proofs.Common.{◌∙◌, ap}
use Rattle.td_plan.proofs.SlotLaws.{slots_taken}
use Rattle.td_plan.specs.code.Plans.{slots_before}
use Rattle.td_plan.specs.code.Hands.{slots_in}
use Rattle.td_plan.proofs.running.bound.again_before.Goals as goal

pub returns : goal.returns
returns c =
    ap slots_in c.truncate.ensures.items ∙ slots_taken c.args.slot c.in_ok-copy.copy.items ∙ ap (slots_before c.args.slot) c.in_ok-copy.ensures
