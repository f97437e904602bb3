use Rattle.td_eval.proofs.code_lemmas.FixedElements.{PartsSoFar}
use Rattle.td_eval.proofs.flat.put_literals.Given as goal

abbrev pub invariant-loop-place : goal.invariant-loop-place
invariant-loop-place l = PartsSoFar l.parts l.names l.place l.row.items
