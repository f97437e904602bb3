use Rattle.std.proofs.Common.{◌≡◌, reverse, take}
use Rattle.td_catalog.specs.model.Database.{database_scope}
use Rattle.td_plan.specs.code.Planners.{IsPlanner, among_headings}
use Rattle.td_plan.proofs.making.planner.Planner.again.Given as goal

abbrev pub invariant-loop-outer : goal.invariant-loop-outer
invariant-loop-outer g l =
    IsPlanner g.C.Definitions.database l.again
    × (l.again.scope ≡ among_headings (database_scope (g.C.Definitions.database l.self.catalog.now)) (reverse (take l.outer-index l.headings)))
