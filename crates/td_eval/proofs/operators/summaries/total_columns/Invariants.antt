use Rattle.std.proofs.Common.{map, take}
use Rattle.std.specs.List.{zip}
use Rattle.td_algebra.specs.code.Columns.{columns_view}
use Rattle.td_eval.proofs.code_lemmas.WalkedTotals.{total_column}
use Rattle.td_tree.specs.code.Gatherings.{IsGathered}
use Rattle.td_eval.proofs.operators.summaries.total_columns.Given as goal

abbrev pub invariant-loop-place : goal.invariant-loop-place
invariant-loop-place l = IsGathered l.causes (columns_view l.columns.items) (map total_column (take l.place (zip l.attributes l.totals)))
