use Rattle.std.proofs.Common.{◌≡◌, take}
use Rattle.td_tree.specs.code.TreeViews.{named_view, summaries_view, trees_view}
use Rattle.td_tree.proofs.+copy.Given as goal

abbrev pub invariant-copy::copy_list-loop-expression : goal.invariant-copy::copy_list-loop-expression
invariant-copy::copy_list-loop-expression l =
    trees_view l.copy.items ≡ trees_view (take l.expression-index l.expression-items)

abbrev pub invariant-copy::copy_parts-loop-part : goal.invariant-copy::copy_parts-loop-part
invariant-copy::copy_parts-loop-part l = named_view l.copy.items ≡ named_view (take l.part-index l.part-items)

abbrev pub invariant-copy::copy_summaries-loop-summary : goal.invariant-copy::copy_summaries-loop-summary
invariant-copy::copy_summaries-loop-summary l =
    summaries_view l.copy.items ≡ summaries_view (take l.summary-index l.summary-items)
