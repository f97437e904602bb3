use Rattle.td_algebra.proofs.layout.Layout.hash_of.Given as goal

abbrev pub invariant-loop-place : goal.invariant-loop-place
invariant-loop-place l = Unit
