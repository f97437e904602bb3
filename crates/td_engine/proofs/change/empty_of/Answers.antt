use Rattle.std.proofs.Common.{subst, sym}
use Rattle.std.specs.List.Sorted.{IsStrictlySortedBy}
use Rattle.td_value.specs.model.Values.{IsAscendingBody}
use Rattle.td_engine.proofs.change.empty_of.Goals as goal

pub of_ascending-requires-clause-ascending : goal.of_ascending-requires-clause-ascending
unfolding IsStrictlySortedBy
of_ascending-requires-clause-ascending c = subst IsAscendingBody (sym c.new.ensures.items) tt
