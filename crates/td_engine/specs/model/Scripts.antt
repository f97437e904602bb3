-- The script that a source gives in a run (this project's own; the words for bytes that are told are std's).
use Rattle.std.specs.Prelude.{◌≡◌, ⊤, ℕ, ◌^◌, ◌<◌, ◌≤◌, Bool, true, false, List, [], ◌∷◌, ◌++◌, length, take, drop, Option}
use Rattle.std.specs.Io.KnownBytes.{Consumes, IsAtEnd}
use Rattle.td_engine.specs.model.Told.{ConsumesIfTold}
use Rattle.td_tree.specs.model.Statements.{IsEnded, IsUnended, PlacedToken, statements}

-- the most bytes that a script may have
abbrev pub script_limit : ℕ
script_limit = 2 ^ 30

-- each goes up to and with its `;`
abbrev pub AreEnded : List (List PlacedToken) → Type 0
AreEnded [] = ⊤
AreEnded (s ∷ ss) = IsEnded s × AreEnded ss

-- tokens that no `;` ends, if there are any
abbrev pub AreLeft : List (List PlacedToken) → Type 0
AreLeft [] = ⊤
AreLeft (s ∷ []) = IsUnended s
AreLeft (s ∷ t ∷ ss) = ⊥

-- a front of the script. Where it is the whole, the source is at its end, else each of the first `done` statements ends with
-- `;`
pub record IsFront (done : ℕ) (whole : Bool) (after : Option (List ℕ)) (front : List ℕ) : Type 0 where
  pub at_end : whole ≡ true → IsAtEnd after
  pub each_ended : whole ≡ false → AreEnded (take done (statements 0 front))

-- the fact holds of the script whatever comes behind the front, which is nothing where the front is the whole
abbrev pub Continued : Bool → List ℕ → (List ℕ → Type 0) → Type 0
Continued whole front P = (rest : List ℕ) → (whole ≡ true → rest ≡ []) → P (front ++ rest)

-- the source gave a front of the script, of which the fact holds
abbrev pub OfFront : ℕ → Option (List ℕ) → Option (List ℕ) → (List ℕ → Type 0) → Type 0
OfFront done before after P =
    (front : List ℕ) × (whole : Bool) × Consumes before after front × IsFront done whole after front
    × Continued whole front P

-- the source gave at most `limit` bytes, and the whole script unless the run ended before:
-- `over` tells whether the first refusal ended it
pub record IsRead (limit : ℕ) (over whole : Bool) (front : List ℕ) : Type 0 where
  pub unless_over : over ≡ false → whole ≡ true
  pub size : length front ≤ limit

abbrev pub OfScript : ℕ → ℕ → Bool → Option (List ℕ) → Option (List ℕ) → (List ℕ → Type 0) → Type 0
OfScript limit done over before after P =
    (front : List ℕ) × (whole : Bool) × Consumes before after front × IsFront done whole after front
    × Continued whole front P × IsRead limit over whole front

-- the source failed: the statements that were run are all of the front that a `;` ends
abbrev pub OfBroken : ℕ → Option (List ℕ) → Option (List ℕ) → (List ℕ → Type 0) → Type 0
OfBroken done before after P =
    (front : List ℕ) × ConsumesIfTold before after front × IsFront done false after front × Continued false front P
    × AreLeft (drop done (statements 0 front))

-- the source gave more bytes than a script may have, and the fact holds of its front
abbrev pub OfTooMuch : ℕ → ℕ → Option (List ℕ) → Option (List ℕ) → (List ℕ → Type 0) → Type 0
OfTooMuch limit done before after P =
    (front : List ℕ) × Consumes before after front × IsFront done false after front × Continued false front P
    × (limit < length front)
