use Rattle.std.proofs.Common.{◌≡◌, ◌++◌, string_bytes, take}
use Rattle.std.specs.List.{flat_map}
use Rattle.td_catalog.specs.model.Dumps.{constraint_line}
use Rattle.td_catalog.proofs.catalog.Catalog.put_constraints.Given as goal

abbrev pub invariant-loop-place : goal.invariant-loop-place
invariant-loop-place g l =
    string_bytes l.out ≡ string_bytes l.initial.out ++ flat_map constraint_line (take l.place l.self.database.constraints)
