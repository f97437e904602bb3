use Rattle.std.proofs.Common.{◌≡◌, map, take}
use Rattle.std.specs.List.{All}
use Rattle.td_body.specs.code.KeyIndexes.{IsIndex}
use Rattle.td_body.specs.code.KeyParts.{places_from}
use Rattle.td_body.specs.code.Members.{IsFresh, places_in}
use Rattle.td_body.proofs.hashed.filled.indexes_by.Given as goal

abbrev pub invariant-loop-key : goal.invariant-loop-key
invariant-loop-key l = record {
  index : All (IsIndex l.rows.rows l.rows.gone) l.indexes.items;
  before : All IsFresh l.indexes.items;
  places : places_in l.indexes.items ≡ map (λ key. places_from 0 key.items l.names) (take l.key-index l.keys);
}
