use Rattle.std.proofs.Common.{◌≡◌}
use Rattle.td_body.specs.code.Chains.{last_in}
use Rattle.td_body.specs.code.KeyIndexes.{HasRoom, IsIndex}
use Rattle.td_body.proofs.hashed.index.KeyIndex.skip_gone.Given as goal

abbrev pub invariant-walk : goal.invariant-walk
invariant-walk l = record {
  index : IsIndex l.rows.rows l.rows.gone l.self;
  before : l.self.clashes.before.items ≡ l.fn.self.clashes.before.items;
  places : l.self.places.items ≡ l.fn.self.places.items;
  room : HasRoom l.fn.self → HasRoom l.self;
  last : l.at ≡ last_in l.self.chains.last l.hash;
}

abbrev pub decreases-walk : goal.decreases-walk
decreases-walk l = l.at
