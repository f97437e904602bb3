use Rattle.std.proofs.Common.{◌∷◌, ◌++◌, [], false}
use Rattle.td_body.specs.code.Turns.{Becomes, TurnedBelow}
use Rattle.td_body.proofs.hashed.indexes.put_in_all.Given as goal

abbrev pub invariant-loop-place : goal.invariant-loop-place
invariant-loop-place l = TurnedBelow (Becomes (l.rows.rows ++ l.tuple ∷ []) (l.rows.gone ++ false ∷ [])) l.place l.initial.indexes l.indexes
