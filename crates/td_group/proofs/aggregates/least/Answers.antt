use Rattle.std.proofs.Common.{◌∙◌, ap, sym, arith}
use Rattle.std.specs.Ordering.{is_lt}
use Rattle.td_group.proofs.Sums.{less_is, less_stays}
use Rattle.td_group.proofs.aggregates.least.Goals as goal
use Rattle.td_group.proofs.aggregates.least.Goals.{then-is_lt, else-is_lt}

pub loop-value-preserved : goal.loop-value-preserved
loop-value-preserved c = elim c.if-is_lt.branch [
  | then-is_lt w ↦ less_is c.args.first.now c.args.others.now c.loop-value.value-index c.value-item.result c.loop-value.best.now c.if-is_lt.best.now
      (omega (arith, c.loop-value-test.true)) c.value-item.is c.loop-value.invariant
      (sym (c.is_lt.ensures ∙ ap is_lt c.cmp.ensures) ∙ w.if-is_lt.true) (ap (λ b. b.now) w.best-is)
  | else-is_lt w ↦ less_stays c.args.first.now c.args.others.now c.loop-value.value-index c.value-item.result c.loop-value.best.now c.if-is_lt.best.now
      (omega (arith, c.loop-value-test.true)) c.value-item.is c.loop-value.invariant
      (sym (c.is_lt.ensures ∙ ap is_lt c.cmp.ensures) ∙ w.if-is_lt.false) (ap (λ b. b.now) w.best-is)
]
