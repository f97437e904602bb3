use Rattle.std.proofs.Common.{◌≡◌, drop}
use Rattle.td_eval.specs.laws.ReachedRelvars.{reached_from}
use Rattle.td_engine.proofs.reached.reached_from.Given as goal

abbrev pub invariant-loop-place : goal.invariant-loop-place
invariant-loop-place g l =
    reached_from l.reached (drop l.place l.catalog.database.virtuals) ≡ reached_from l.fn.changed.items l.catalog.database.virtuals
