use Rattle.td_eval.proofs.code_lemmas.OpComparisons.{at_most_relations}
use Rattle.td_eval.proofs.operators.comparisons.at_most.Goals as goal

pub returns-in-Rel-Rel : goal.returns-in-Rel-Rel
returns-in-Rel-Rel c =
    rw (← c.first.view_is, ← c.second.view_is, c.in-Rel-Rel.is-0, c.in-Rel-Rel.is-1, at_most_relations c.in-Rel-Rel.rel.value c.in-Rel-Rel.other.value, ← c.deref.ensures, ← c.deref-in-Rel-Rel.ensures)
    c.is_part.ensures
