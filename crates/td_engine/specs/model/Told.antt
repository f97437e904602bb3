-- What a call of a source or a sink does to the bytes that it tells (this project's own; in std's words).
use Rattle.std.specs.Prelude.{◌≡◌, ℕ, ◌+◌, ◌≤◌, List, ◌++◌, length, take, Option, Some, None, Result, MatchResult, ⊤, Bool, IsFalse}
use Rattle.std.specs.Io.KnownBytes.{Appends, Consumes}

-- bytes that are told before and after are the same
abbrev pub KeepsIfTold : Option (List ℕ) → Option (List ℕ) → Type 0
KeepsIfTold (Some xs) (Some ys) = ys ≡ xs
KeepsIfTold _ _ = ⊤

-- a call that answers n took the first n bytes of the buffer off the front, and `Broken` took none
abbrev pub Pulls : {E : Type 0} → Option (List ℕ) → Option (List ℕ) → Result ℕ E → List ℕ → Type 0
Pulls old new result buffer = MatchResult result (λ n. Consumes old new (take n buffer)) (λ _. KeepsIfTold old new)

-- a call that answers n put the first n bytes at the end, and `Broken` put none
abbrev pub Puts : {E : Type 0} → Option (List ℕ) → Option (List ℕ) → Result ℕ E → List ℕ → Type 0
Puts old new result bytes = MatchResult result (λ n. Appends old new (take n bytes)) (λ _. KeepsIfTold old new)

-- bytes that are told before and after grow by these
abbrev pub AppendsIfTold : Option (List ℕ) → Option (List ℕ) → List ℕ → Type 0
AppendsIfTold (Some xs) (Some ys) bytes = ys ≡ xs ++ bytes
AppendsIfTold _ _ bytes = ⊤

-- these bytes were the first of those that were told before; where bytes are told after, they are the others
abbrev pub ConsumesIfTold : Option (List ℕ) → Option (List ℕ) → List ℕ → Type 0
ConsumesIfTold None after bytes = ⊤
ConsumesIfTold (Some xs) None bytes = (ys : List ℕ) × (xs ≡ bytes ++ ys)
ConsumesIfTold (Some xs) (Some ys) bytes = xs ≡ bytes ++ ys

-- a source that tells its bytes before and after, and gave at most this many
abbrev pub GaveAtMost : ℕ → Option (List ℕ) → Option (List ℕ) → Type 0
GaveAtMost limit (Some xs) (Some ys) = length xs ≤ limit + length ys
GaveAtMost limit _ _ = ⊥

-- a source or a sink that was not broken is not broken after
abbrev pub StaysWhole : Bool → Bool → Type 0
StaysWhole old new = IsFalse old → IsFalse new
