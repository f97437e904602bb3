use Rattle.std.specs.Borrow.{Bor}
use Rattle.td_catalog.specs.code.CatalogViews.{base_view}
use Rattle.td_catalog.specs.declared.entry.BaseEntry.{BaseEntry}
use Rattle.td_eval.specs.code.LentWorlds.{world_in}
use Rattle.td_plan.proofs.LookUpLaws.{base_told}
use Rattle.td_plan.proofs.running.look_up.base_in.Goals as goal

pub returns-clause-value : goal.returns-clause-value
returns-clause-value g c =
    base_told c.get_base.result (λ (e : Bor (BaseEntry g.row.B.Denot)). base_view g.B.Body.relation (c.args.name.now, e.now)) c.args.env.now.catalog.now.database c.args.name.now
    (world_in c.args.env.now) c.get_base.ensures.found (c.has_other_relation.ensures c.if-has_other_relation.false)
