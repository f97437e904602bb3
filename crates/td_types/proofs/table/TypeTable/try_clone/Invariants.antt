use Rattle.td_types.proofs.Copies.{IsCopied}
use Rattle.td_types.proofs.table.TypeTable.try_clone.Given as goal

abbrev pub invariant-loop-name : goal.invariant-loop-name
invariant-loop-name l = IsCopied l.initial.name-iterator l.rows.entries l.name-iterator
