use Rattle.std.proofs.Common.{refl}
use Rattle.td_catalog.proofs.Copies.{IsCopied}
use Rattle.td_catalog.proofs.copy.copied_headings.Given as goal

abbrev pub invariant-loop-name : goal.invariant-loop-name
invariant-loop-name l =
    (goal.iterator-loop-name).can_next l.name-iterator
    × (goal.iterator-loop-name).is_finite l.name-iterator
    × IsCopied (λ row. row) (λ row. row.0) (λ row. refl) l.headings.entries l.copy.entries l.name-iterator
