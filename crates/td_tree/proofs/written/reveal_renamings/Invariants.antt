use Rattle.std.proofs.Common.{map, take}
use Rattle.std.specs.List.{AllByRecursion}
use Rattle.td_tree.specs.model.Names.{IsName}
use Rattle.td_tree.specs.model.Trees.{Renaming}
use Rattle.td_tree.specs.code.TreeViews.{renaming_view}
use Rattle.td_tree.proofs.written.reveal_renamings.Given as goal

abbrev pub invariant-loop-renaming : goal.invariant-loop-renaming
invariant-loop-renaming l = AllByRecursion (λ (r : Renaming). IsName r.new) (map renaming_view (take l.renaming-index l.renamings))
