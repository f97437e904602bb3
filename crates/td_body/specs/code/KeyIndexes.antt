-- Indexes of tuples by number (this project's own).
use Rattle.std.specs.Prelude.{◌≡◌, ℕ, ◌<◌, List, Bool, true, false, map, slice_index_or, vec_capacity, vec_len}
use Rattle.std.specs.Ordering.{is_eq}
use Rattle.indexmap.specs.IndexMap.{spare}
use Rattle.td_value.specs.model.Values.{Tuple}
use Rattle.td_body.specs.code.Chains.{AreLinked}
use Rattle.td_body.specs.code.Hashes.{part_hash}
use Rattle.td_body.specs.code.KeyParts.{by_places}
use Rattle.td_body.specs.code.Numbered.{live, repeats}
use Rattle.td_body.specs.declared.hashed.index.KeyIndex.{KeyIndex}

-- whether two tuples have the same values at the places
abbrev pub agree_at : List ℕ → Tuple → Tuple → Bool
agree_at places s t = is_eq (by_places places s t)

-- the hashes of tuples at an index
abbrev pub hashes_in : KeyIndex → List Tuple → List ℕ
hashes_in index rows = map (part_hash index.places.items) rows

-- what is skipped is gone
abbrev pub AreGone : List Bool → List Bool → Type 0
AreGone skipped gone = (i : ℕ) → slice_index_or skipped i false ≡ true → slice_index_or gone i false ≡ true

-- each tuple that is not gone is found by its hash
pub record IsLinked (rows : List Tuple) (gone : List Bool) (index : KeyIndex) : Type 0 where
  pub linked : AreLinked (hashes_in index rows) index.chains.skipped.items index.chains.last index.chains.next.items
  pub marked : AreGone index.chains.skipped.items gone

-- each tuple that is not gone is found by its hash, and the clashes are those of these
abbrev pub IsIndex : List Tuple → List Bool → KeyIndex → Type 0
IsIndex rows gone index = IsLinked rows gone index × (index.clashes.now ≡ repeats (agree_at index.places.items) (live rows gone))

-- there is room for one tuple more
pub record HasRoom (index : KeyIndex) : Type 0 where
  pub last : 0 < spare index.chains.last
  pub next : vec_len index.chains.next < vec_capacity index.chains.next
  pub skipped : vec_len index.chains.skipped < vec_capacity index.chains.skipped

-- there is room to keep one set more
abbrev pub CanKeep : KeyIndex → Type 0
CanKeep index = vec_len index.clashes.before < vec_capacity index.clashes.before
