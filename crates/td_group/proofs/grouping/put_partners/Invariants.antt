use Rattle.std.proofs.Common.{◌≡◌, ◌++◌}
use Rattle.td_algebra.specs.code.Lookups.{partners_in}
use Rattle.td_group.proofs.grouping.put_partners.Given as goal

abbrev pub invariant-loop-row : goal.invariant-loop-row
invariant-loop-row l = l.rows.items ++ l.row-iterator ≡ l.fn.rows.items ++ partners_in l.lookup l.places l.tuple
