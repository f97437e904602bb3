use Rattle.td_body.specs.code.Turns.{Forgets, TurnedBelow}
use Rattle.td_body.proofs.hashed.indexes.forget_all.Given as goal

abbrev pub invariant-loop-place : goal.invariant-loop-place
invariant-loop-place l = TurnedBelow (Forgets) l.place l.initial.indexes l.indexes
