use Rattle.std.proofs.Common.{◌∙◌, arith}
use Rattle.td_plan.proofs.MemoLaws.{kept_elsewhere}
use Rattle.td_plan.proofs.running.memo.forget.Goals as goal

pub returns-then-slot-memo : goal.returns-then-slot-memo
returns-then-slot-memo c = λ ps w s t agree m u further. (
  kept_elsewhere ps w s u c.args.slot c.args.slot c.forget_all.new.kept.items (omega arith) (λ j l. agree j l ∙ further j l) c.forget_all.ensures.within (c.forget_all.ensures.kept ps w s m.0),
  c.forget_all.ensures.within,
)

pub returns-else-slot-memo : goal.returns-else-slot-memo
returns-else-slot-memo c = λ ps w s t agree m u further.
    let at_most = c.if-slot-memo.false in
    (kept_elsewhere ps w s u c.args.memo.now.deepest c.args.slot c.args.memo.now.kept.items (omega arith) (λ j l. agree j l ∙ further j l) m.1 m.0, m.1)
