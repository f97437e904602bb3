use Rattle.std.proofs.Common.{◌≡◌, drop, fold}
use Rattle.std.specs.Hash.FoldHasher.{write}
use Rattle.td_body.specs.code.Hashes.{fed_found}
use Rattle.td_body.specs.code.KeyParts.{tuple_values_at}
use Rattle.td_body.proofs.hashed.hashes.hash_at.Given as goal

abbrev pub invariant-loop-place : goal.invariant-loop-place
invariant-loop-place l = fold write l.state (fed_found (tuple_values_at (drop l.place-index l.places) l.tuple)) ≡ fold write l.initial.state (fed_found (tuple_values_at l.places l.tuple))
