use Rattle.std.proofs.Common.{◌∙◌, refl}
use Rattle.td_plan.proofs.SlotLaws.{cells_same}
use Rattle.td_plan.specs.code.Hands.{slots_of}
use Rattle.td_plan.specs.code.Plans.{with_slot}
use Rattle.td_plan.proofs.running.hand.entered.Goals as goal

pub returns-clause-outer : goal.returns-clause-outer
returns-clause-outer c =
    c.in_ok-put.ensures
    ∙ (λ i. with_slot c.args.hand.now.slot (cells_same c.in_ok-tuple.tuple c.args.hand.now.tuple c.in_ok-tuple.ensures i) (c.in_ok-outer.ensures i))

pub returns-clause-memo : goal.returns-clause-memo
returns-clause-memo c = λ ps w m. c.forget.ensures ps w (slots_of c.args.hand.now) (slots_of c.args.hand.now) (λ j l. refl) m

pub returns-in_err-outer-clause-memo : goal.returns-in_err-outer-clause-memo
returns-in_err-outer-clause-memo c = λ ps w m. c.forget.ensures ps w (slots_of c.args.hand.now) (slots_of c.args.hand.now) (λ j l. refl) m

pub returns-in_err-tuple-clause-memo : goal.returns-in_err-tuple-clause-memo
returns-in_err-tuple-clause-memo c = λ ps w m. c.forget.ensures ps w (slots_of c.args.hand.now) (slots_of c.args.hand.now) (λ j l. refl) m

pub returns-in_err-put-clause-memo : goal.returns-in_err-put-clause-memo
returns-in_err-put-clause-memo c = λ ps w m. c.forget.ensures ps w (slots_of c.args.hand.now) (slots_of c.args.hand.now) (λ j l. refl) m
