use Rattle.td_eval.proofs.code_lemmas.OpComparisons.{membership_of}
use Rattle.td_eval.proofs.operators.comparisons.membership.Goals as goal

pub returns-in-Tup-Rel : goal.returns-in-Tup-Rel
returns-in-Tup-Rel c =
    rw (← c.first.view_is, ← c.second.view_is, c.in-Tup-Rel.is-0, c.in-Tup-Rel.is-1, membership_of c.in-Tup-Rel.tuple.value c.in-Tup-Rel.rel.value, ← c.deref.ensures, ← c.deref-in-Tup-Rel.ensures)
    c.is_member.ensures
