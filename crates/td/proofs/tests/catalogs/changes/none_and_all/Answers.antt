use Rattle.std.proofs.Common.{[], subst, sym}
use Rattle.std.specs.List.Sorted.{IsStrictlySortedBy}
use Rattle.td_value.specs.model.Values.{IsAscendingBody, tuple_cmp}
use Rattle.td.proofs.tests.catalogs.changes.none_and_all.Goals as goal

none_ascend : IsStrictlySortedBy tuple_cmp []
unfolding IsStrictlySortedBy
none_ascend = tt

pub of_ascending-requires-clause-ascending : goal.of_ascending-requires-clause-ascending
of_ascending-requires-clause-ascending c = subst IsAscendingBody (sym c.new.ensures.items) none_ascend
