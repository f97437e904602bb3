use Rattle.std.proofs.Common.{◌≡◌, [], ◌∷◌, ◌++◌, drop, map}
use Rattle.td_tree.proofs.code_lemmas.Writing.{listed}
use Rattle.td_tree.specs.model.Lexemes as lexeme
use Rattle.td_tree.specs.model.Prints.{name_lexemes}
use Rattle.td_tree.specs.code.Written.{written_text}
use Rattle.td_tree.proofs.print.words.Printer.names.Given as goal

abbrev pub invariant-loop-name : goal.invariant-loop-name
invariant-loop-name l =
    l.out ++ written_text (listed l.later (map (λ n. lexeme.name n ∷ []) (drop l.name-index l.names)))
    ≡ l.initial.out ++ written_text (name_lexemes l.names)
