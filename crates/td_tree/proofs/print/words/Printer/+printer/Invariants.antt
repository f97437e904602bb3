use Rattle.std.proofs.Common.{◌≡◌, ◌++◌, drop}
use Rattle.td_tree.proofs.code_lemmas.Writing.{listed}
use Rattle.td_tree.specs.model.Prints.{addition_lexemes, all_lexemes, commas, part_lexemes, setting_lexemes, summary_lexemes}
use Rattle.td_tree.specs.code.TreeViews.{named_view, summaries_view, trees_view}
use Rattle.td_tree.specs.code.Written.{written_text}
use Rattle.td_tree.proofs.print.words.Printer.+printer.Given as goal

abbrev pub invariant-arguments-loop-argument : goal.invariant-arguments-loop-argument
invariant-arguments-loop-argument l =
    l.out ++ written_text (listed l.later (all_lexemes (trees_view (drop l.argument-index l.arguments))))
    ≡ l.initial.out ++ written_text (commas (all_lexemes (trees_view l.arguments)))

abbrev pub invariant-elements-loop-element : goal.invariant-elements-loop-element
invariant-elements-loop-element l =
    l.out ++ written_text (listed l.later (all_lexemes (trees_view (drop l.element-index l.elements))))
    ≡ l.initial.out ++ written_text (commas (all_lexemes (trees_view l.elements)))

abbrev pub invariant-parts-loop-part : goal.invariant-parts-loop-part
invariant-parts-loop-part l =
    l.out ++ written_text (listed l.later (part_lexemes (named_view (drop l.part-index l.parts))))
    ≡ l.initial.out ++ written_text (commas (part_lexemes (named_view l.parts)))

abbrev pub invariant-additions-loop-part : goal.invariant-additions-loop-part
invariant-additions-loop-part l =
    l.out ++ written_text (listed l.later (addition_lexemes (named_view (drop l.part-index l.parts))))
    ≡ l.initial.out ++ written_text (commas (addition_lexemes (named_view l.parts)))

abbrev pub invariant-targets-loop-part : goal.invariant-targets-loop-part
invariant-targets-loop-part l =
    l.out ++ written_text (listed l.later (setting_lexemes (named_view (drop l.part-index l.parts))))
    ≡ l.initial.out ++ written_text (commas (setting_lexemes (named_view l.parts)))

abbrev pub invariant-summaries-loop-summary : goal.invariant-summaries-loop-summary
invariant-summaries-loop-summary l =
    l.out ++ written_text (listed l.later (summary_lexemes (summaries_view (drop l.summary-index l.added))))
    ≡ l.initial.out ++ written_text (commas (summary_lexemes (summaries_view l.added)))
