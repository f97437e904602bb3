use Rattle.std.proofs.Common.{◌≡◌, map, take}
use Rattle.td_tree.specs.code.TreeViews.{renaming_view}
use Rattle.td_tree.proofs.copy.copy_renamings.Given as goal

abbrev pub invariant-loop-renaming : goal.invariant-loop-renaming
invariant-loop-renaming l = map renaming_view l.copy.items ≡ map renaming_view (take l.renaming-index l.renaming-items)
