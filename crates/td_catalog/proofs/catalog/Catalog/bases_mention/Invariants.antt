use Rattle.std.specs.Prelude.{⊤}
use Rattle.std.specs.List.{list_any}
use Rattle.td_catalog.specs.model.Mentioned.{base_mentions_type}
use Rattle.td_catalog.proofs.Visits.{AreLeft, heading_mentions}
use Rattle.td_catalog.proofs.catalog.Catalog.bases_mention.Given as goal

abbrev pub invariant-loop-entry : goal.invariant-loop-entry
invariant-loop-entry g l =
    (goal.iterator-loop-entry g).can_next l.entry-iterator
    × (goal.iterator-loop-entry g).is_finite l.entry-iterator
    × AreLeft (λ _. ⊤) (heading_mentions l.name) (list_any (base_mentions_type l.name) l.self.database.bases) l.entry-iterator
