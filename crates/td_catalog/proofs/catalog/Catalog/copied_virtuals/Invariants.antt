use Rattle.std.proofs.Common.{refl}
use Rattle.td_catalog.specs.code.CatalogViews.{virtual_view}
use Rattle.td_catalog.specs.model.Database.{VirtualRelvar}
use Rattle.td_catalog.proofs.Copies.{IsCopied}
use Rattle.td_catalog.proofs.catalog.Catalog.copied_virtuals.Given as goal

abbrev pub invariant-loop-name : goal.invariant-loop-name
invariant-loop-name g l =
    (goal.iterator-loop-name g).can_next l.name-iterator
    × (goal.iterator-loop-name g).is_finite l.name-iterator
    × IsCopied virtual_view (λ (v : VirtualRelvar). v.name) (λ row. refl) l.self.database.virtuals l.copy.entries l.name-iterator
