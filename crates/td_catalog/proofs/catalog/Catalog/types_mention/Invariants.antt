use Rattle.std.proofs.Common.{◌≡◌, false, take}
use Rattle.std.specs.List.{list_any}
use Rattle.td_catalog.specs.model.Mentioned.{type_mentions_type}
use Rattle.td_catalog.proofs.catalog.Catalog.types_mention.Given as goal

abbrev pub invariant-loop-place : goal.invariant-loop-place
invariant-loop-place g l = list_any (type_mentions_type l.name) (take l.place l.self.database.types) ≡ false
