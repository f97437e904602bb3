use Rattle.td_eval.specs.model.DatabaseWorlds.{world_of}
use Rattle.td_eval.specs.code.LentWorlds.{world_in}
use Rattle.td_plan.specs.code.Hands.{AreValued}
use Rattle.td_plan.proofs.running.virtuals.virtual_relvars.Given as goal

abbrev pub invariant-loop-place : goal.invariant-loop-place
invariant-loop-place g l = AreValued (world_of l.env.catalog.now.database) l.valued.items × AreValued (world_in l.env) l.valued.items
