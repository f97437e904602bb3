use Rattle.td_body.specs.code.Turns.{GoesBack, TurnedBelow}
use Rattle.td_body.proofs.hashed.indexes.go_back_all.Given as goal

abbrev pub invariant-loop-place : goal.invariant-loop-place
invariant-loop-place l = TurnedBelow (GoesBack) l.place l.initial.indexes l.indexes
