-- What a call that puts a text at the end of another leaves where it wants memory (this project's own).
use Rattle.std.specs.Prelude.{◌≡◌, ℕ, List, ◌++◌}

-- a front of the text stands behind what was there, and this is left of it
abbrev pub IsBegun : List ℕ → List ℕ → List ℕ → List ℕ → Type 0
IsBegun old new left text = (front : List ℕ) × (new ≡ old ++ front) × (front ++ left ≡ text)

-- a front of the text stands behind what was there
abbrev pub PutsFront : List ℕ → List ℕ → List ℕ → Type 0
PutsFront old new text = (left : List ℕ) × IsBegun old new left text
