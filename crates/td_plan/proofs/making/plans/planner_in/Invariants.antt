use Rattle.std.proofs.Common.{◌≡◌, map, reverse, take}
use Rattle.td_catalog.specs.model.Database.{database_scope}
use Rattle.td_eval.specs.model.Worlds.{with_tuples}
use Rattle.td_plan.specs.code.Planners.{IsPlanner, catalog_database}
use Rattle.td_plan.proofs.making.plans.planner_in.Given as goal

abbrev pub invariant-loop-tuple : goal.invariant-loop-tuple
invariant-loop-tuple g l =
    IsPlanner catalog_database l.planner
    × (l.planner.scope ≡ with_tuples (database_scope l.env.catalog.now.database) (reverse (map (λ t. t.now) (take l.tuple-index l.env.tuples.now))))
