use Rattle.std.proofs.Common.{map, refl}
use Rattle.td_catalog.proofs.Copies.{BaseParts, IsCopied, base_parts}
use Rattle.td_catalog.proofs.catalog.Catalog.copied_bases.Given as goal

abbrev pub invariant-loop-name : goal.invariant-loop-name
invariant-loop-name g l =
    (goal.iterator-loop-name g).can_next l.name-iterator
    × (goal.iterator-loop-name g).is_finite l.name-iterator
    × IsCopied (base_parts g.B.Body.relation g.B.Body.keys) (λ (p : BaseParts). p.base.name) (λ row. refl)
    (map (base_parts g.B.Body.relation g.B.Body.keys) l.initial.name-iterator) l.copy.entries l.name-iterator
