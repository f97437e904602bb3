use Rattle.std.proofs.Common.{take}
use Rattle.td_types.specs.code.Pairs.{ArePairs}
use Rattle.td_types.specs.code.Views.{pairs_view}
use Rattle.td_types.proofs.table.reveal_all.Given as goal

abbrev pub invariant-loop-name : goal.invariant-loop-name
invariant-loop-name l = ArePairs (pairs_view (take l.name-index l.components))
