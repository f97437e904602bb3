use Rattle.std.proofs.Common.{◌≡◌, drop}
use Rattle.std.specs.Prelude.{find}
use Rattle.std.specs.Str.{str_eq_ignore_ascii_case}
use Rattle.td_tree.specs.model.Keywords.{word_of}
use Rattle.td_tree.proofs.keyword.first_spelled.Given as goal

abbrev pub invariant-loop-keyword : goal.invariant-loop-keyword
invariant-loop-keyword l =
    find (λ k. str_eq_ignore_ascii_case (word_of k) l.text) (drop l.keyword-index l.keywords) ≡ find (λ k. str_eq_ignore_ascii_case (word_of k) l.text) l.keywords
