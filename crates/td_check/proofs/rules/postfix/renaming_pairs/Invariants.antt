use Rattle.std.proofs.Common.{◌≡◌, ◌++◌, drop, map}
use Rattle.td_check.specs.model.OperatorTypes.{renaming_pairs}
use Rattle.td_tree.specs.code.TreeViews.{renaming_view}
use Rattle.td_check.proofs.rules.postfix.renaming_pairs.Given as goal

abbrev pub invariant-loop-renaming : goal.invariant-loop-renaming
invariant-loop-renaming l = l.pairs.items ++ renaming_pairs (map renaming_view (drop l.renaming-index l.renamings)) ≡ renaming_pairs (map renaming_view l.renamings)
