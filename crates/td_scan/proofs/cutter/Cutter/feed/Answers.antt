use Rattle.std.proofs.Common.{◌∙◌, ◌+◌, ◌<◌, ◌^◌, ◌++◌, ◌-◌, ap, arith, drop, length, length-append, subst, sym}
use Rattle.td_tree.specs.model.Statements.{Held}
use Rattle.td_scan.specs.code.Progress.{GoesOn, IsHeld, IsWithoutEnd}
use Rattle.td_scan.proofs.HeldReads.{held_on}
use Rattle.td_scan.proofs.cutter.Cutter.feed.Goals as goal

pub invariant_of-self-then-not-self-2 : goal.invariant_of-self-then-not-self-2
invariant_of-self-then-not-self-2 c =
    let s = c.self.inside in
    let more = c.args.piece.now in
    let new = c.read_on-reading.result in
    let all = c.in_ok-extend.ensures.ok ∙ ap (λ b. b ++ more) c.close_up.ensures in
    let room : s.offset + length (s.bytes ++ more) < 2 ^ 64 = omega (arith, c.requires.room, length-append s.bytes more, ap (λ (h : Held). h.offset) c.self.view_is, ap (λ (h : Held). length h.bytes) c.self.view_is) in
    let rest = c.bytes_from-rest.ensures ∙ ap (drop (s.reading.start - s.offset)) (c.as_slice.ensures ∙ all) in
    subst (λ b. IsHeld b s.offset new c.left_may_end-self-inside.result) (sym all)
    (held_on s.bytes s.offset s.reading c.self.invariant.keeps more new room c.if-not-self-2.true
    (subst (λ b. GoesOn s.reading new b) rest c.read_on-reading.ensures) c.left_may_end-self-inside.result
    (λ e. subst (λ b. IsWithoutEnd new.begun (drop (new.start - s.reading.start) b)) rest (c.left_may_end-self-inside.ensures e)))
