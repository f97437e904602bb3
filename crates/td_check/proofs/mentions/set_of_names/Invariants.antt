use Rattle.std.proofs.Common.{◌≡◌, ◌++◌}
use Rattle.td_check.specs.model.Mentions.{name_set}
use Rattle.td_check.proofs.mentions.set_of_names.Given as goal

abbrev pub invariant-loop-name : goal.invariant-loop-name
invariant-loop-name l = (l.fn.names.items ≡ l.yielded ++ l.name-iterator.rest.items) × (l.set.keys ≡ name_set l.yielded)
