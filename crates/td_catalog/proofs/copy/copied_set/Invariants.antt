use Rattle.std.proofs.Common.{◌≡◌, take}
use Rattle.td_catalog.proofs.copy.copied_set.Given as goal

abbrev pub invariant-loop-place : goal.invariant-loop-place
invariant-loop-place l = l.copy.keys ≡ take l.place l.names.keys
