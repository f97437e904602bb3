use Rattle.td_body.specs.code.Turns.{Becomes, TurnedBelow}
use Rattle.td_body.proofs.hashed.indexes.take_out_all.Given as goal

abbrev pub invariant-loop-place : goal.invariant-loop-place
invariant-loop-place l = TurnedBelow (Becomes l.rows.rows l.rows.gone) l.place l.initial.indexes l.indexes
