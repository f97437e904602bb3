use Rattle.std.proofs.Common.{◌∙◌, ap}
use Rattle.td_plan.proofs.SlotLaws.{slots_taken}
use Rattle.td_plan.specs.code.Plans.{slots_before}
use Rattle.td_plan.specs.code.Hands.{slots_in}
use Rattle.td_plan.proofs.running.bound.rows_before.Goals as goal

pub returns-clause-rows : goal.returns-clause-rows
returns-clause-rows c =
    ap slots_in c.truncate.ensures.items ∙ slots_taken c.args.slot c.in_ok-inside.inside.outer.items ∙ ap (slots_before c.args.slot) c.in_ok-inside.ensures.outer
