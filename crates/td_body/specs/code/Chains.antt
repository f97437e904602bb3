-- Numbers of items, chained by the items' hashes: each leads to the one before it that has the same hash, past those that the
-- chains skip (this project's own).
use Rattle.std.specs.Prelude.{◌≡◌, ℕ, zero, suc, ◌+◌, ◌<◌, ◌≤◌, ◌-◌, ◌&&◌, Bool, true, false, cond, not, List, length, nat_eq, slice_index, slice_index_or}
use Rattle.std.specs.Option.{unwrap_or}
use Rattle.indexmap.specs.IndexMap.{IndexMap, get}

-- one more than the number of the last of the first n items that has the hash and is not skipped, or 0 where there is none
abbrev pub latest : List ℕ → List Bool → ℕ → ℕ → ℕ
latest hashes skipped hash zero = 0
latest hashes skipped hash (suc n) =
    cond (nat_eq hash (slice_index hashes n) && not (slice_index_or skipped n true)) (suc n) (latest hashes skipped hash n)

-- what the table has for a hash
abbrev pub last_in : {H : Type 0} → IndexMap ℕ ℕ H → ℕ → ℕ
last_in last hash = unwrap_or (get nat_eq last hash) 0

-- each of the first n items that is not skipped leads to the one before it that has its hash
abbrev pub AreChained : List ℕ → List Bool → ℕ → List ℕ → Type 0
AreChained hashes skipped n next =
    (i d : ℕ) → i < n → slice_index_or skipped i true ≡ false → slice_index_or next i d ≡ latest hashes skipped (slice_index hashes i) i

-- the table leads to the last item of each hash, and each item to the one before it; the first item of a hash is not skipped
pub record AreLinked {H : Type 0} (hashes : List ℕ) (skipped : List Bool) (last : IndexMap ℕ ℕ H) (next : List ℕ) : Type 0 where
  pub lasts : (hash : ℕ) → last_in last hash ≡ latest hashes skipped hash (length hashes)
  pub nexts : length next ≡ length hashes
  pub marks : length skipped ≡ length hashes
  pub links : AreChained hashes skipped (length hashes) next
  pub ends : (i : ℕ) → i < length hashes → slice_index_or skipped i false ≡ true → 0 < latest hashes skipped (slice_index hashes i) i

-- a walk over the first n items has come to `at`: each later one that has the hash fails the test
pub record IsWalked (hashes : List ℕ) (skipped : List Bool) (n hash : ℕ) (test : ℕ → Bool) (at : ℕ) : Type 0 where
  pub within : at ≤ n
  pub here : 0 < at → slice_index hashes (at - 1) ≡ hash
  pub linked : 0 < at → slice_index_or skipped (at - 1) true ≡ false
  pub behind : (i : ℕ) → at ≤ i → i < n → slice_index hashes i ≡ hash → test i ≡ false

-- the first item of the hash behind a number that is not skipped has the number above - 1
pub record IsAbove (hashes : List ℕ) (skipped : List Bool) (next : List ℕ) (hash number above : ℕ) : Type 0 where
  pub past : number + 1 < above
  pub within : above ≤ length hashes
  pub here : slice_index hashes (above - 1) ≡ hash
  pub linked : slice_index_or skipped (above - 1) true ≡ false
  pub first : slice_index_or next (above - 1) 0 ≤ number + 1
