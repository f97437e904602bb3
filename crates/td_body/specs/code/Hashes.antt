-- Hashes of the parts of tuples that a key names (this project's own).
use Rattle.std.specs.Prelude.{ℕ, ◌++◌, List, [], ◌∷◌, Option, Some, None, filter, fold}
use Rattle.std.specs.Hash.FoldHasher as folding
use Rattle.std.specs.Ordering.{is_eq}
use Rattle.td_value.specs.code.Hashes.{fed_value}
use Rattle.td_value.specs.model.Values.{Tuple, Val}
use Rattle.td_body.specs.code.KeyParts.{tuple_values_at, values_cmp}

-- what a hash is fed for a value, which may be missing
abbrev pub fed_if_found : Option Val → List (List ℕ)
fed_if_found None = []
fed_if_found (Some v) = fed_value v

-- the bytes that a hasher is fed for some values, each of which may be missing
abbrev pub fed_found : List (Option Val) → List (List ℕ)
fed_found [] = []
fed_found (v ∷ vs) = fed_if_found v ++ fed_found vs

-- the hash of values, each of which may be missing
unfoldable pub found_hash : List (Option Val) → ℕ
found_hash vs = folding.finish (fold folding.write folding.initial (fed_found vs))

-- the hash of a tuple's values at places
abbrev pub part_hash : List ℕ → Tuple → ℕ
part_hash places t = found_hash (tuple_values_at places t)

-- the tuples whose values at the places are those of a part
abbrev pub with_part : List ℕ → List Val → List Tuple → List Tuple
with_part places part = filter (λ t. is_eq (values_cmp places t part))
