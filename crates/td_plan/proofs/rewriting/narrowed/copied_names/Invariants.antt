use Rattle.std.proofs.Common.{◌≡◌, take}
use Rattle.td_plan.proofs.rewriting.narrowed.copied_names.Given as goal

abbrev pub invariant-loop-name : goal.invariant-loop-name
invariant-loop-name l = l.copy.items ≡ take l.name-index l.names
