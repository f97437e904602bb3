use Rattle.std.proofs.Common.{ap}
use Rattle.td_plan.proofs.PlannedClosed.{closed_planned}
use Rattle.td_tree.specs.code.TreeViews.{tree_view}
use Rattle.td_plan.proofs.making.closed.closed_step.Goals as goal

pub returns-in-Ok : goal.returns-in-Ok
returns-in-Ok g c =
    let planner = c.args.planner.now in
    closed_planned planner.scope (g.C.Definitions.database planner.catalog.now) (tree_view c.args.expr.now) c.in-Ok.value (ap (λ s. s.types) c.requires)
    (c.is_closed.ensures (c.if-not-is_closed.false)) c.in-Ok.ensures
