use Rattle.std.proofs.Common.{◌≡◌, Some, drop, fold, map}
use Rattle.std.specs.Hash.FoldHasher.{write}
use Rattle.td_body.specs.code.Hashes.{fed_found}
use Rattle.td_body.proofs.hashed.hashes.hash_of.Given as goal

abbrev pub invariant-loop-value : goal.invariant-loop-value
invariant-loop-value l = fold write l.state (fed_found (map Some (drop l.value-index l.part))) ≡ fold write l.initial.state (fed_found (map Some l.part))
