use Rattle.std.proofs.Common.{refl, subst, sym}
use Rattle.td_eval.specs.model.OperatorValues.{headed_value}
use Rattle.td_plan.specs.code.Plans.{selected_value}
use Rattle.td_plan.specs.code.Hands.{world_around}
use Rattle.td_plan.specs.code.StepViews.{selector_view}
use Rattle.td_tree.specs.model.Outcomes.{Answers, Valued}
use Rattle.td_plan.proofs.running.operators.selected_value.Goals as goal

pub returns-in_ok-try_clone-in-HeadedRelation : goal.returns-in_ok-try_clone-in-HeadedRelation
returns-in_ok-try_clone-in-HeadedRelation g c =
    subst (λ s. Answers (λ v. v) c.value_of_headed.result (selected_value (world_around c.args.around.now) (selector_view s) c.args.values.items)) (sym c.in-HeadedRelation.is)
    (subst (λ h. Answers (λ v. v) c.value_of_headed.result (headed_value h c.args.values.items)) c.in_ok-try_clone-in-HeadedRelation.ensures
    (c.value_of_headed.ensures (Valued c.in_ok-try_clone-in-HeadedRelation.field-0) (Valued c.args.values.items) refl refl))
