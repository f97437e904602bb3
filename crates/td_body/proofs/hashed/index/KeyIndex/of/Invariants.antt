use Rattle.std.proofs.Common.{◌≡◌, [], take}
use Rattle.td_body.specs.code.KeyIndexes.{IsIndex}
use Rattle.td_body.proofs.hashed.index.KeyIndex.of.Given as goal

abbrev pub invariant-loop-number : goal.invariant-loop-number
invariant-loop-number l = record {
  index : IsIndex (take l.number l.rows.rows) (take l.number l.rows.gone) l.index;
  before : l.index.clashes.before.items ≡ [];
  places : l.index.places.items ≡ l.fn.places.items;
}
