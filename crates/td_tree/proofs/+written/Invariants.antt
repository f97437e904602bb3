use Rattle.std.proofs.Common.{drop}
use Rattle.td_tree.specs.model.WrittenTrees.{GiveNames, HaveTexts, ItemsGiveNames, ItemsHaveTexts, PartsGiveNames, PartsHaveTexts}
use Rattle.td_tree.specs.code.TreeViews.{named_view, summaries_view, trees_view}
use Rattle.td_tree.proofs.+written.Given as goal

-- where the rest is written, all is
abbrev pub invariant-written::reveal_all-loop-element : goal.invariant-written::reveal_all-loop-element
invariant-written::reveal_all-loop-element l =
    (GiveNames (trees_view (drop l.element-index l.elements)) → GiveNames (trees_view l.elements))
    × (HaveTexts (trees_view (drop l.element-index l.elements)) → HaveTexts (trees_view l.elements))

abbrev pub invariant-written::reveal_parts-loop-part : goal.invariant-written::reveal_parts-loop-part
invariant-written::reveal_parts-loop-part l =
    (PartsGiveNames (named_view (drop l.part-index l.parts)) → PartsGiveNames (named_view l.parts))
    × (PartsHaveTexts (named_view (drop l.part-index l.parts)) → PartsHaveTexts (named_view l.parts))

abbrev pub invariant-written::reveal_summaries-loop-summary : goal.invariant-written::reveal_summaries-loop-summary
invariant-written::reveal_summaries-loop-summary l =
    (ItemsGiveNames (summaries_view (drop l.summary-index l.summaries)) → ItemsGiveNames (summaries_view l.summaries))
    × (ItemsHaveTexts (summaries_view (drop l.summary-index l.summaries)) → ItemsHaveTexts (summaries_view l.summaries))
