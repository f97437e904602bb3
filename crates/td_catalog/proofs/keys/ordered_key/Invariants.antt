use Rattle.std.proofs.Common.{◌≡◌, take}
use Rattle.td_catalog.specs.model.Dumps.{ordered_names}
use Rattle.td_catalog.proofs.keys.ordered_key.Given as goal

abbrev pub invariant-loop-place : goal.invariant-loop-place
invariant-loop-place l = l.names.items ≡ ordered_names (take l.place l.heading) l.key
