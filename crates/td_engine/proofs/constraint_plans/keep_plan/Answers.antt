use Rattle.std.proofs.Common.{subst, sym}
use Rattle.td_engine.proofs.code_lemmas.ConstraintPlanLaws.{place_more, plan_more}
use Rattle.td_engine.specs.code.ConstraintPlans.{AreKeptPlans, IsPlanIn}
use Rattle.td_plan.specs.code.PlanViews.{plan_view}
use Rattle.td_plan.specs.code.PlansOf.{IsPlanIfTyped, scope_in}
use Rattle.td_tree.specs.code.TreeViews.{tree_view}
use Rattle.td_engine.proofs.constraint_plans.keep_plan.Goals as goal

pub returns : goal.returns
returns g c = λ kept.
    let db = c.args.catalog.now.database in
    let made = c.in_ok-made.made in
    let stands : IsPlanIn db c.args.condition.now made =
    record {
      stands = subst (λ s. IsPlanIfTyped s (plan_view made) c.args.condition.now) c.env_with.ensures.scope
          (subst (IsPlanIfTyped (scope_in c.env_with.result) (plan_view made)) c.tree.ensures c.in_ok-made.ensures);
    } in
    subst (AreKeptPlans db) (sym c.set.ensures)
    (plan_more db c.loop-plans.plans.items c.args.place made (λ k at. subst (λ e. IsPlanIn db e made) (sym (c.requires k at)) stands) (c.loop-plans.invariant kept))

pub loop-plans-preserved : goal.loop-plans-preserved
loop-plans-preserved g c = λ kept.
    let db = c.args.catalog.now.database in
    subst (AreKeptPlans db) (sym c.in_ok-push.ensures.items) (place_more db c.loop-plans.plans.items (c.loop-plans.invariant kept))
