use Rattle.std.proofs.Common.{[], arith, refl, subst, sym}
use Rattle.td_scan.specs.code.Progress.{IsHeld}
use Rattle.td_scan.proofs.HeldReads.{keeps_none}
use Rattle.td_scan.proofs.cutter.Cutter.new.Goals as goal

pub invariant_of-result : goal.invariant_of-result
invariant_of-result c =
    subst (λ bs. IsHeld bs 0 c.unread.result _) (sym c.new.ensures)
    (subst (λ r. IsHeld [] 0 r _) (sym c.unread.ensures) (record { keeps = keeps_none [] 0 (omega arith); none = λ e. record { other = tt; none = refl } }))
