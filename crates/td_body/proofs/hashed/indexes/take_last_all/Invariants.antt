use Rattle.td_body.specs.code.Turns.{Drops, TurnedBelow}
use Rattle.td_body.proofs.hashed.indexes.take_last_all.Given as goal

abbrev pub invariant-loop-place : goal.invariant-loop-place
invariant-loop-place l = TurnedBelow (Drops l.tuple) l.place l.initial.indexes l.indexes
