use Rattle.std.proofs.Common.{◌∙◌, ◌<◌, ap, length, rules, sym}
use Rattle.td_catalog.specs.model.Database.{database_scope}
use Rattle.td_check.specs.model.Scopes.{entered_with}
use Rattle.td_plan.specs.code.Planners.{among_headings}
use Rattle.td_plan.proofs.Places.{one_more_first}
use Rattle.td_plan.proofs.making.planner.Planner.again.Goals as goal

pub loop-outer-preserved : goal.loop-outer-preserved
loop-outer-preserved g c =
    let hs = c.headings-headings.result.now in
    let within : c.loop-outer.outer-index < length hs = search rules in
    let at = c.outer-item.is in (
      c.in_ok-enter.ensures.planner,
      c.in_ok-enter.ensures.scope
          ∙ (λ i. entered_with c.outer-item.result (c.loop-outer.invariant.1 i))
          ∙ ap (among_headings (database_scope (g.C.Definitions.database c.args.self.now.catalog.now))) (sym (one_more_first hs c.loop-outer.outer-index c.outer-item.result within at)),
    )
