-- A script as its characters, and the bytes that begin none (UTF-8 is the language's choice; strays
-- are this project's own).
use Rattle.std.specs.Prelude.{ℕ, zero, suc, ◌-◌, if◌then◌else◌, List, [], ◌∷◌, Option, Some, None, length, take, slice_index, slice_get}
use Rattle.std.specs.List.{flat_map}
use Rattle.std.specs.Str.{is_utf8, chars, continuation_len}

-- as many bytes as the first one says that its character takes
abbrev pub front_bytes : List ℕ → List ℕ
front_bytes bs = take (suc (continuation_len (slice_index bs 0))) bs

-- the character that begins the bytes; None where none does
abbrev pub front_char : List ℕ → Option ℕ
front_char bs = if is_utf8 (front_bytes bs) then slice_get (chars (front_bytes bs)) 0 else None

-- a character with its bytes, or one byte that begins no character
pub record Symbol : Type 0 where
  pub character : Option ℕ
  pub text : List ℕ

-- the character with these bytes, or where there is none the first byte
abbrev pub symbol_of : Option ℕ → List ℕ → ℕ → Symbol
symbol_of (Some c) front b = record { character = Some c; text = front }
symbol_of None front b = record { character = None; text = b ∷ [] }

-- the symbol at the front of b ∷ bs
abbrev pub symbol_at : ℕ → List ℕ → Symbol
symbol_at b bs = symbol_of (front_char (b ∷ bs)) (front_bytes (b ∷ bs)) b

-- the symbols of the bytes, but for so many of them, which are of the symbol before
abbrev pub symbols_from : ℕ → List ℕ → List Symbol
symbols_from left [] = []
symbols_from (suc left) (b ∷ bs) = symbols_from left bs
symbols_from zero (b ∷ bs) = symbol_at b bs ∷ symbols_from (length (symbol_at b bs).text - 1) bs

-- the symbols of the bytes
abbrev pub symbols : List ℕ → List Symbol
symbols = symbols_from 0

-- the bytes of the symbols
abbrev pub spell : List Symbol → List ℕ
spell = flat_map (λ (s : Symbol). s.text)
