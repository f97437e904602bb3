-- Marks of names: for each a bit that its hash gives, so that lists of names without a common bit have no common name (this
-- project's own).
use Rattle.std.specs.Prelude.{ℕ, ◌%◌, ◌^◌, List, bit_or, fold}
use Rattle.std.specs.Hash as fed
use Rattle.std.specs.Hash.FoldHasher as folding

-- the hash of a name
unfoldable pub hash_of : List ℕ → ℕ
hash_of name = folding.finish (fold folding.write folding.initial (fed.str name))

-- which of the bits is a name's
abbrev pub bit_of : List ℕ → ℕ
bit_of name = hash_of name % 64

abbrev pub name_mark : List ℕ → ℕ
name_mark name = 2 ^ bit_of name

-- marks with those of more names
abbrev pub name_marks : ℕ → List (List ℕ) → ℕ
name_marks marks names = fold (λ marks name. bit_or marks (name_mark name)) marks names
