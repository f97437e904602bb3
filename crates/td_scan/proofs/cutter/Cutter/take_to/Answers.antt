use Rattle.std.specs.List.{list_any}
use Rattle.std.specs.Prelude.{◌==◌}
use Rattle.std.proofs.Common.{◌∙◌, ◌+◌, ◌<◌, ◌^◌, ◌-◌, ap, arith, length, length-drop, subst, sym}
use Rattle.td_tree.specs.model.Statements.{Held}
use Rattle.td_scan.specs.code.Progress.{IsHeld}
use Rattle.td_scan.proofs.HeldReads.{held_unread}
use Rattle.td_scan.proofs.TakenLaws.{first_within}
use Rattle.td_scan.proofs.cutter.Cutter.take_to.Goals as goal

pub overflow_sub-end : goal.overflow_sub-end
overflow_sub-end c = omega (arith, (first_within c.args.self.now).stop, c.requires, ap (λ (h : Held). h.offset) c.self.view_is)

pub take_off-requires : goal.take_off-requires
take_off-requires c =
    omega (arith, (first_within c.args.self.now).within, c.requires, ap (λ (h : Held). h.offset) c.self.view_is, ap (λ (h : Held). length h.bytes) c.self.view_is)

pub invariant_of-self : goal.invariant_of-self
invariant_of-self c =
    let s = c.self.inside in
    let offset = ap (λ (h : Held). h.offset) c.self.view_is in
    let w = first_within c.args.self.now in
    let room : c.args.end + length c.take_off.new.self < 2 ^ 64 =
    omega (arith, c.self.invariant.keeps.room, ap length c.take_off.ensures, length-drop (c.args.end - s.offset) s.bytes, w.stop, c.requires, offset) in
    subst (λ r. IsHeld c.take_off.new.self c.args.end r c.contains-self-inside.result) (sym c.unread-self-inside.ensures)
    (held_unread c.take_off.new.self c.args.end room c.contains-self-inside.result (c.contains-self-inside.ensures.value ∙ ap (list_any (λ b. b == 59)) c.as_slice.ensures))
