use Rattle.std.proofs.Common.{subst}
use Rattle.std.proofs.lemmas.Result.{IfOk-weaker}
use Rattle.td_plan.proofs.MadePlans.{planned_by}
use Rattle.td_plan.specs.code.PlansOf.{IsPlanOfTyped, scope_in}
use Rattle.td_plan.specs.code.PlanViews.{plan_view}
use Rattle.td_plan.specs.code.PlannedParts.{IsPlanned}
use Rattle.td_tree.specs.code.TreeViews.{tree_view}
use Rattle.td_tree.specs.model.Trees.{name, restriction}
use Rattle.td_plan.proofs.making.plans.plan_in_relvar.Goals as goal

pub returns : goal.returns
returns g c =
    let scope = scope_in c.args.env.now in
    let d = restriction (name c.in_ok-try_clone.field-0) (tree_view c.args.condition.now) in
    IfOk-weaker c.plan_by.result _ _
    (λ p plan. subst (λ n. IsPlanOfTyped scope (plan_view p) (restriction (name n) (tree_view c.args.condition.now))) c.in_ok-try_clone.ensures plan)
    (planned_by (λ p. IsPlanOfTyped scope p d) c.where_of.result c.plan_by.result c.plan_by.ensures
    (subst (λ s. IsPlanned s c.where_of.result d) c.in_ok-planner.ensures.scope c.where_of.ensures))

pub where_of-requires : goal.where_of-requires
where_of-requires g c = c.in_ok-planner.ensures.planner
