use Rattle.std.proofs.Common.{◌≡◌, ◌++◌, take}
use Rattle.td_check.proofs.CheckedLists.{of_each}
use Rattle.td_check.proofs.WrittenNames.{names_of, names_of_item, names_of_part}
use Rattle.td_check.proofs.names.+written.Given as goal

abbrev pub invariant-add_all-loop-expr : goal.invariant-add_all-loop-expr
invariant-add_all-loop-expr l = l.names.items ≡ l.initial.names.items ++ of_each names_of (take l.expr-index l.exprs)

abbrev pub invariant-add_named-loop-part : goal.invariant-add_named-loop-part
invariant-add_named-loop-part l = l.names.items ≡ l.initial.names.items ++ of_each names_of_part (take l.part-index l.parts)

abbrev pub invariant-add_items-loop-item : goal.invariant-add_items-loop-item
invariant-add_items-loop-item l = l.names.items ≡ l.initial.names.items ++ of_each names_of_item (take l.item-index l.items)
