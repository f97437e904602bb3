use Rattle.std.proofs.Common.{◌≡◌, ◌++◌, drop, map}
use Rattle.td_tree.proofs.code_lemmas.Writing.{listed}
use Rattle.td_tree.specs.model.Prints.{commas, renaming_lexemes}
use Rattle.td_tree.specs.code.TreeViews.{renaming_view}
use Rattle.td_tree.specs.code.Written.{written_text}
use Rattle.td_tree.proofs.print.words.Printer.renamings.Given as goal

abbrev pub invariant-loop-renaming : goal.invariant-loop-renaming
invariant-loop-renaming l =
    l.out ++ written_text (listed l.later (map renaming_lexemes (map renaming_view (drop l.renaming-index l.renamings))))
    ≡ l.initial.out ++ written_text (commas (map renaming_lexemes (map renaming_view l.renamings)))
