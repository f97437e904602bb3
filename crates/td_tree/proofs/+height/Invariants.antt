use Rattle.std.proofs.Common.{◌≡◌, max, min, drop}
use Rattle.td_tree.specs.model.Heights.{highest, highest_named, highest_summary}
use Rattle.td_tree.specs.code.TreeViews.{trees_view, named_view, summaries_view}
use Rattle.td_tree.proofs.+height.Given as goal

abbrev pub invariant-height::highest-loop-element :
    goal.invariant-height::highest-loop-element
invariant-height::highest-loop-element l =
    max l.highest (min (highest (trees_view (drop l.element-index l.elements))) 18446744073709551615)
    ≡ min (highest (trees_view l.elements)) 18446744073709551615

abbrev pub invariant-height::highest_named-loop-part :
    goal.invariant-height::highest_named-loop-part
invariant-height::highest_named-loop-part l =
    max l.highest (min (highest_named (named_view (drop l.part-index l.parts))) 18446744073709551615)
    ≡ min (highest_named (named_view l.parts)) 18446744073709551615

abbrev pub invariant-height::highest_summary-loop-summary :
    goal.invariant-height::highest_summary-loop-summary
invariant-height::highest_summary-loop-summary l =
    max l.highest (min (highest_summary (summaries_view (drop l.summary-index l.summaries))) 18446744073709551615)
    ≡ min (highest_summary (summaries_view l.summaries)) 18446744073709551615
