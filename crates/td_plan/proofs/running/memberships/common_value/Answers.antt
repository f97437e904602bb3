use Rattle.std.proofs.Common.{◌∙◌, Bor, ap, subst, sym}
use Rattle.td_plan.proofs.SlotLaws.{agree_below}
use Rattle.td_plan.specs.code.Plans.{plan_value}
use Rattle.td_plan.specs.code.Hands.{slots_in, slots_inside}
use Rattle.td_plan.specs.code.Memos.{IsPart, IsSound}
use Rattle.td_plan.specs.code.Quick.{IsQuick}
use Rattle.td_plan.specs.code.StepViews.{step_view}
use Rattle.td_value.specs.model.Values.{Val}
use Rattle.td_value.specs.code.Views.{values_of}
use Rattle.td_plan.proofs.running.memberships.common_value.Goals as goal

pub returns-in-Once : goal.returns-in-Once
returns-in-Once c = λ ps w inside t sound m.
    let i = c.in-Once in
    let both : IsPart ps i.place i.reach (step_view i.part.value) × IsSound ps i.part.value = subst (IsSound ps) i.is sound in
    let s = slots_inside inside t in
    subst (λ q. IsQuick (λ (v : Bor Val). v.now) c.lent_answer.result (plan_value w s q)) (both.0.at ∙ sym (ap step_view i.is))
    (c.lent_answer.ensures ps w s (m s (agree_below inside.slot (values_of t) (slots_in inside.outer.items))))
