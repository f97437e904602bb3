use Rattle.td_body.specs.code.Turns.{Keeps, TurnedBelow}
use Rattle.td_body.proofs.hashed.indexes.keep_all.Given as goal

abbrev pub invariant-loop-place : goal.invariant-loop-place
invariant-loop-place l = TurnedBelow (Keeps) l.place l.initial.indexes l.indexes
