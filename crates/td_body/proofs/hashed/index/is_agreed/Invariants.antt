use Rattle.std.proofs.Common.{◌&&◌, get_or, map, not, true}
use Rattle.td_body.specs.code.KeyIndexes.{agree_at}
use Rattle.td_body.specs.code.Hashes.{part_hash}
use Rattle.td_body.proofs.Walks.{IsWalking}
use Rattle.td_body.proofs.hashed.index.is_agreed.Given as goal

abbrev pub invariant-walk : goal.invariant-walk
invariant-walk l = IsWalking (map (part_hash l.places) l.rows.rows) l.rows.gone l.count l.next (part_hash l.places l.tuple) (λ i. not (get_or l.rows.gone i true) && agree_at l.places l.tuple (get_or l.rows.rows i l.tuple)) l.at

abbrev pub decreases-walk : goal.decreases-walk
decreases-walk l = l.at
