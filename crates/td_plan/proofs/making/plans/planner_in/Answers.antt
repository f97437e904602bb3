use Rattle.std.proofs.Common.{◌∙◌, ◌<◌, ap, length, rules, sym}
use Rattle.std.specs.Borrow.{Bor}
use Rattle.td_catalog.specs.model.Database.{database_scope}
use Rattle.td_check.specs.model.Scopes.{entered_with}
use Rattle.td_eval.specs.model.Worlds.{with_tuples}
use Rattle.td_plan.proofs.Places.{one_more_of}
use Rattle.td_value.specs.model.Values.{Tuple}
use Rattle.td_plan.proofs.making.plans.planner_in.Goals as goal

pub loop-tuple-preserved : goal.loop-tuple-preserved
loop-tuple-preserved g c =
    let scope = database_scope c.args.env.now.catalog.now.database in
    let ts = c.args.env.now.tuples.now in
    let within : c.loop-tuple.tuple-index < length ts = search rules in
    let first = c.in_ok-heading.ensures in (
      c.in_ok-enter.ensures.planner,
      c.in_ok-enter.ensures.scope
          ∙ (λ i. entered_with (first i) (c.loop-tuple.invariant.1 i))
          ∙ ap (with_tuples scope) (sym (one_more_of (λ (t : Bor Tuple). t.now) ts c.loop-tuple.tuple-index c.tuple-item.result within c.tuple-item.is)),
    )
