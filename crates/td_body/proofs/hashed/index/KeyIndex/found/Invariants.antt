use Rattle.std.proofs.Common.{◌≡◌, ◌&&◌, Some, [], length, map, true}
use Rattle.std.specs.Ordering.{is_eq}
use Rattle.td_value.specs.model.Values.{Tuple}
use Rattle.td_body.specs.code.Hashes.{found_hash}
use Rattle.td_body.specs.code.KeyIndexes.{hashes_in}
use Rattle.td_body.specs.code.KeyParts.{values_cmp}
use Rattle.td_body.specs.code.Numbered.{live}
use Rattle.td_body.proofs.FoundParts.{untold}
use Rattle.td_body.proofs.TupleSets.{has_tuple}
use Rattle.td_body.proofs.Walks.{IsWalking}
use Rattle.td_body.proofs.hashed.index.KeyIndex.found.Given as goal

abbrev pub invariant-walk : goal.invariant-walk
invariant-walk l = record {
  walking : IsWalking (hashes_in l.self l.rows.rows) l.rows.gone (length l.rows.rows) l.self.chains.next.items (found_hash (map Some l.part)) (untold (λ t. is_eq (values_cmp l.self.places.items t l.part)) l.rows.rows l.rows.gone [] l.found.items) l.at;
  sound : (t : Tuple) → has_tuple t l.found.items ≡ true → (is_eq (values_cmp l.self.places.items t l.part) && has_tuple t (live l.rows.rows l.rows.gone)) ≡ true;
}

abbrev pub decreases-walk : goal.decreases-walk
decreases-walk l = l.at
