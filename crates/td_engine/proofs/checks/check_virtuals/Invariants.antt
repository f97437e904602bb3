use Rattle.td_engine.proofs.law_lemmas.InOrder.{IsLeft}
use Rattle.td_engine.specs.model.Checks.{virtual_check}
use Rattle.td_eval.specs.model.DatabaseWorlds.{world_of}
use Rattle.td_engine.proofs.checks.check_virtuals.Given as goal

abbrev pub invariant-loop-place : goal.invariant-loop-place
invariant-loop-place g l = IsLeft (virtual_check (world_of l.catalog.database)) l.catalog.database.virtuals l.place
