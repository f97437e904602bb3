use Rattle.std.proofs.Common.{sym}
use Rattle.td_catalog.specs.code.CatalogViews.{virtual_view}
use Rattle.td_plan.proofs.VirtualRelvars.{virtual_planned}
use Rattle.td_plan.specs.code.PlanViews.{plan_view}
use Rattle.td_tree.specs.code.TreeViews.{tree_view}
use Rattle.td_plan.proofs.running.virtuals.relvar_by_plan.Goals as goal

pub returns : goal.returns
returns g c =
    virtual_planned c.args.catalog.now.database c.reveal.ensures c.args.name.now (virtual_view (c.args.name.now, c.in-Some.entry.now))
    (sym c.in-Some.ensures) c.run_plan_in.result (plan_view c.in_ok-plan.plan) (tree_view c.tree.result.now) c.tree.ensures c.in_ok-plan.ensures
    c.run_plan_in.ensures
