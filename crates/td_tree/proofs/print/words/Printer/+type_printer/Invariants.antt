use Rattle.std.proofs.Common.{◌≡◌, ◌++◌, drop}
use Rattle.td_tree.proofs.code_lemmas.Writing.{listed}
use Rattle.td_tree.specs.model.Prints.{attribute_lexemes, commas}
use Rattle.td_tree.specs.code.TreeViews.{heading_tree_view}
use Rattle.td_tree.specs.code.Written.{written_text}
use Rattle.td_tree.proofs.print.words.Printer.+type_printer.Given as goal

abbrev pub invariant-heading-loop-attribute : goal.invariant-heading-loop-attribute
invariant-heading-loop-attribute l =
    l.out ++ written_text (listed l.later (attribute_lexemes (heading_tree_view (drop l.attribute-index l.heading))))
    ≡ l.initial.out ++ written_text (commas (attribute_lexemes (heading_tree_view l.heading)))
