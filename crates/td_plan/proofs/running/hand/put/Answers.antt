use Rattle.std.proofs.Common.{◌∙◌, ap, arith}
use Rattle.td_plan.proofs.SlotLaws.{slots_more, slots_set}
use Rattle.td_plan.specs.code.Hands.{cells_of, slots_in}
use Rattle.td_plan.specs.code.Plans.{with_slot}
use Rattle.td_plan.proofs.running.hand.put.Goals as goal

pub returns-then-slot-len : goal.returns-then-slot-len
returns-then-slot-len c =
    let inside = c.if-slot-len.true in
    ap slots_in c.set.ensures ∙ slots_set c.fill.new.rows.items c.args.slot c.args.row (omega (arith, c.len.ensures, inside)) ∙ ap (with_slot c.args.slot (cells_of c.args.row)) c.in_ok-fill.ensures.same

pub returns-in_ok-push : goal.returns-in_ok-push
returns-in_ok-push c =
    let past = c.if-slot-len.false in
    ap slots_in c.in_ok-push.ensures.items ∙ slots_more c.fill.new.rows.items c.args.row c.args.slot (omega (arith, c.len.ensures, past, c.in_ok-fill.ensures.count)) ∙ ap (with_slot c.args.slot (cells_of c.args.row)) c.in_ok-fill.ensures.same
