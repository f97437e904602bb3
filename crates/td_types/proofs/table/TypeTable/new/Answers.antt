use Rattle.std.proofs.Common.{sym, subst}
use Rattle.td_types.specs.code.Tables.{IsTable}
use Rattle.td_types.proofs.Tables.{IsTable-none}
use Rattle.td_types.proofs.table.TypeTable.new.Goals as goal

pub invariant_of-result : goal.invariant_of-result
invariant_of-result c = subst IsTable (sym c.new.ensures.empty) IsTable-none
