use Rattle.std.proofs.Common.{drop}
use Rattle.td_tree.specs.model.WrittenTrees.{PartsGiveNames, PartsHaveTexts}
use Rattle.td_tree.specs.code.TreeViews.{named_view}
use Rattle.td_plan.proofs.values.reveal_parts.Given as goal

-- where the rest is written, all are
abbrev pub invariant-loop-part : goal.invariant-loop-part
invariant-loop-part l =
    (PartsGiveNames (named_view (drop l.part-index l.parts)) → PartsGiveNames (named_view l.parts))
    × (PartsHaveTexts (named_view (drop l.part-index l.parts)) → PartsHaveTexts (named_view l.parts))
