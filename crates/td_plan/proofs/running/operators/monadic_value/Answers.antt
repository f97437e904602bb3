use Rattle.std.proofs.Common.{◌∙◌, subst, sym}
use Rattle.std.specs.Rc.{rc_str_bytes}
use Rattle.td_eval.specs.model.OperatorValues.{component_value}
use Rattle.td_plan.proofs.RunLaws.{types_known}
use Rattle.td_plan.specs.code.Plans.{monadic_value}
use Rattle.td_plan.specs.code.Hands.{world_around}
use Rattle.td_plan.specs.code.StepViews.{monadic_view}
use Rattle.td_tree.specs.model.Outcomes.{Answers}
use Rattle.td_plan.proofs.running.operators.monadic_value.Goals as goal

pub returns-in-Component : goal.returns-in-Component
returns-in-Component g c =
    subst (λ op. Answers (λ v. v) c.component_value.result (monadic_value (world_around c.args.around.now) (monadic_view op) c.args.operand.now)) (sym c.in-Component.is)
    (subst (λ ds. Answers (λ v. v) c.component_value.result (component_value ds (rc_str_bytes c.in-Component.rest) c.args.operand.now))
    (c.types.ensures ∙ sym (types_known c.args.around.now.env.now)) c.component_value.ensures)
