use Rattle.std.proofs.Common.{◌≡◌, ◌+◌, ◌≤◌, length, take}
use Rattle.td_catalog.specs.code.KeptDatabases.{stages}
use Rattle.td_catalog.proofs.catalog.Catalog.revert.Given as goal

abbrev pub invariant-back : goal.invariant-back
invariant-back g l = record {
  enough : l.to ≤ length l.self.kept;
  back : stages l.self ≡ take (length l.self.kept + 1) (stages l.initial.self);
}

abbrev pub decreases-back : goal.decreases-back
decreases-back g l = length l.self.kept
