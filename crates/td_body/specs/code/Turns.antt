-- What a step makes of each index (this project's own).
use Rattle.std.specs.Prelude.{◌≡◌, ℕ, ◌<◌, ◌≤◌, List, [], ◌∷◌, ◌++◌, Bool, false, length, slice_index_or, slice_set}
use Rattle.td_value.specs.model.Values.{Tuple}
use Rattle.td_body.specs.code.KeyIndexes.{IsIndex, IsLinked}
use Rattle.td_body.specs.code.Numbered.{front}
use Rattle.td_body.specs.declared.hashed.index.KeyIndex.{KeyIndex}

-- each item stands to the one that was at its place as it is to
pub record EachTurned (Turns : KeyIndex → KeyIndex → Type 0) (old new : List KeyIndex) : Type 0 where
  pub many : length new ≡ length old
  pub each : (k : ℕ) (d : KeyIndex) → k < length old → Turns (slice_index_or old k d) (slice_index_or new k d)

-- so far as the first n of them
pub record TurnedBelow (Turns : KeyIndex → KeyIndex → Type 0) (n : ℕ) (old new : List KeyIndex) : Type 0 where
  pub many : length new ≡ length old
  pub done : (k : ℕ) (d : KeyIndex) → k < n → Turns (slice_index_or old k d) (slice_index_or new k d)
  pub rest : (k : ℕ) (d : KeyIndex) → n ≤ k → slice_index_or new k d ≡ slice_index_or old k d

-- nothing changes that can be seen
pub record Stays (old new : KeyIndex) : Type 0 where
  pub index : (rows : List Tuple) (gone : List Bool) → IsIndex rows gone old → IsIndex rows gone new
  pub before : new.clashes.before.items ≡ old.clashes.before.items
  pub places : new.places.items ≡ old.places.items

-- it is the index of these tuples, and keeps what it kept
pub record Becomes (rows : List Tuple) (gone : List Bool) (old new : KeyIndex) : Type 0 where
  pub index : IsIndex rows gone new
  pub before : new.clashes.before.items ≡ old.clashes.before.items
  pub places : new.places.items ≡ old.places.items

-- it is linked to all tuples but the last
pub record Drops (row : Tuple) (old new : KeyIndex) : Type 0 where
  pub linked : (rows : List Tuple) (gone : List Bool) → length gone ≡ length (rows ++ row ∷ []) → IsLinked (rows ++ row ∷ []) gone old → IsLinked rows (front gone) new
  pub before : new.clashes.before.items ≡ old.clashes.before.items
  pub places : new.places.items ≡ old.places.items

-- it is linked to the tuple of the number again, which is not gone any longer
pub record Links (rows : List Tuple) (gone : List Bool) (number : ℕ) (old new : KeyIndex) : Type 0 where
  pub linked : IsLinked rows (slice_set gone number false) new
  pub before : new.clashes.before.items ≡ old.clashes.before.items
  pub places : new.places.items ≡ old.places.items

-- it keeps how many clashes there are
pub record Keeps (old new : KeyIndex) : Type 0 where
  pub index : (rows : List Tuple) (gone : List Bool) → IsIndex rows gone old → IsIndex rows gone new
  pub before : new.clashes.before.items ≡ old.clashes.before.items ++ old.clashes.now ∷ []
  pub places : new.places.items ≡ old.places.items

-- it has as many clashes as it kept last
pub record GoesBack (old new : KeyIndex) : Type 0 where
  pub linked : (rows : List Tuple) (gone : List Bool) → IsLinked rows gone old → IsLinked rows gone new
  pub before : old.clashes.before.items ≡ new.clashes.before.items ++ new.clashes.now ∷ []
  pub places : new.places.items ≡ old.places.items

-- it keeps nothing
pub record Forgets (old new : KeyIndex) : Type 0 where
  pub index : (rows : List Tuple) (gone : List Bool) → IsIndex rows gone old → IsIndex rows gone new
  pub before : new.clashes.before.items ≡ []
  pub places : new.places.items ≡ old.places.items
