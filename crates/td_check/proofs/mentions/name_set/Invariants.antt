use Rattle.std.proofs.Common.{◌≡◌, ◌++◌}
use Rattle.td_check.specs.model.Mentions.{name_set}
use Rattle.td_check.proofs.mentions.name_set.Given as goal

abbrev pub invariant-loop-name : goal.invariant-loop-name
invariant-loop-name l = (l.set.items ≡ l.yielded) × (name_set l.fn.names.items ≡ l.yielded ++ l.name-iterator)
