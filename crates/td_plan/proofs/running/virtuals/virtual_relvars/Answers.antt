use Rattle.td_eval.specs.model.DatabaseWorlds.{world_of}
use Rattle.td_eval.specs.code.LentWorlds.{world_in}
use Rattle.td_plan.proofs.VirtualRelvars.{valued_in_both}
use Rattle.td_plan.proofs.running.virtuals.virtual_relvars.Goals as goal

pub loop-place-preserved : goal.loop-place-preserved
loop-place-preserved g c =
    valued_in_both (world_of c.args.env.now.catalog.now.database) (world_in c.args.env.now) c.loop-place.valued.items c.push.new.self.items
    c.in-Some.name.now c.in_ok-name.name c.relvar_by_plan-answer.result c.loop-place.invariant c.relvar_by_plan-answer.ensures c.in-Some.ensures
    c.in_ok-name.ensures c.in_ok-push.ensures.items
