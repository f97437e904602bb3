use Rattle.std.proofs.Common.{◌≡◌, reverse, take}
use Rattle.td_eval.specs.code.LentWorlds.{seen_by}
use Rattle.td_eval.proofs.lent_world.LentWorld.scope.Given as goal
use Rattle.td_eval.specs.model.Worlds.{with_tuples}

abbrev pub invariant-loop-tuple : goal.invariant-loop-tuple
invariant-loop-tuple g l = l.scope ≡ with_tuples (seen_by l.self).scope (reverse (take l.tuple-index l.tuples))
