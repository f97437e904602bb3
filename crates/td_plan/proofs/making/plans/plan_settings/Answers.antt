use Rattle.std.proofs.Common.{subst}
use Rattle.std.specs.Prelude.{IfOk}
use Rattle.td_plan.proofs.MadePlans.{planned_by}
use Rattle.td_plan.specs.code.StepViews.{step_view}
use Rattle.td_plan.specs.code.PlansOf.{ArePlannedSettings, scope_in}
use Rattle.td_tree.specs.code.TreeViews.{named_view}
use Rattle.td_types.specs.code.Views.{pairs_view}
use Rattle.td_plan.proofs.making.plans.plan_settings.Goals as goal

pub returns : goal.returns
returns g c =
    let r = c.args.rel.now in
    let xs = pairs_view c.args.attributes.items in
    let parts = named_view c.args.parts.now in
    planned_by (λ p. ArePlannedSettings (scope_in c.args.env.now) p r xs parts) c.settings_step-step.result c.plan_by.result c.plan_by.ensures
    (subst (λ s. IfOk c.settings_step-step.result (λ p. ArePlannedSettings s
    (step_view p) r xs parts)) c.in_ok-planner.ensures.scope c.settings_step-step.ensures)

pub settings_step-step-requires : goal.settings_step-step-requires
settings_step-step-requires g c = c.in_ok-planner.ensures.planner
