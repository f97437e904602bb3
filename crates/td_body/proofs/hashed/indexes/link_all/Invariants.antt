use Rattle.td_body.specs.code.Turns.{Links, TurnedBelow}
use Rattle.td_body.proofs.hashed.indexes.link_all.Given as goal

abbrev pub invariant-loop-place : goal.invariant-loop-place
invariant-loop-place l = TurnedBelow (Links l.rows.rows l.rows.gone l.number) l.place l.initial.indexes l.indexes
