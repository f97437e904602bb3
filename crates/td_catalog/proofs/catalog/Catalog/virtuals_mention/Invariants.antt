use Rattle.std.specs.List.{list_any}
use Rattle.td_catalog.specs.model.Database.{VirtualRelvar}
use Rattle.td_catalog.specs.code.Sought.{tree_mentions}
use Rattle.td_catalog.proofs.Visits.{AreLeft, VirtualTyped, virtual_passes}
use Rattle.td_catalog.proofs.catalog.Catalog.virtuals_mention.Given as goal

abbrev pub invariant-loop-entry : goal.invariant-loop-entry
invariant-loop-entry g l =
    (goal.iterator-loop-entry g).can_next l.entry-iterator
    × (goal.iterator-loop-entry g).is_finite l.entry-iterator
    × AreLeft (VirtualTyped l.scope) (virtual_passes (tree_mentions l.space l.scope l.name))
    (list_any (λ (x : VirtualRelvar). tree_mentions l.space l.scope l.name x.tree) l.self.database.virtuals) l.entry-iterator
