use Rattle.std.proofs.Common.{◌&&◌, get_or, length, not, true}
use Rattle.td_body.specs.code.KeyIndexes.{hashes_in}
use Rattle.td_body.specs.code.Numbered.{tuple_eq}
use Rattle.td_body.specs.code.Hashes.{part_hash}
use Rattle.td_body.proofs.Walks.{IsWalking}
use Rattle.td_body.proofs.hashed.index.KeyIndex.find.Given as goal

abbrev pub invariant-walk : goal.invariant-walk
invariant-walk l = IsWalking (hashes_in l.self l.rows.rows) l.rows.gone (length l.rows.rows) l.self.chains.next.items (part_hash l.self.places.items l.tuple) (λ i. not (get_or l.rows.gone i true) && tuple_eq l.tuple (get_or l.rows.rows i l.tuple)) l.at

abbrev pub decreases-walk : goal.decreases-walk
decreases-walk l = l.at
