-- What stands at the front of bytes, as the scanner finds it.
use Rattle.std.specs.Prelude.{◌≡◌, ◌++◌, ⊤, ℕ, suc, ◌+◌, ◌-◌, List}
use Rattle.std.specs.Prelude.{[], ◌∷◌, length, Option, Some, None, option_map, slice_get}
use Rattle.std.specs.Str.{continuation_len}
use Rattle.td_tree.specs.declared.piece.Piece.{Piece}
use Rattle.td_tree.specs.declared.piece.Piece.TheVariants.{Bad}
use Rattle.td_tree.specs.model.Pieces.{begins, continues}
use Rattle.td_tree.specs.model.Statements.{PlacedToken}
use Rattle.td_tree.specs.model.Symbols.{Symbol, symbol_at}

-- how many bytes a character takes that begins with this one
abbrev pub char_size : ℕ → ℕ
char_size lead = suc (continuation_len lead)

-- the first symbol of the bytes is the same whatever follows them
abbrev pub IsKnown : List ℕ → Type 0
IsKnown [] = ⊤
IsKnown (b ∷ bs) = (later : List ℕ) → symbol_at b (bs ++ later) ≡ symbol_at b bs

-- how many bytes the piece takes, n so far, and what it is at its end
abbrev pub end_from : ℕ → Piece → List Symbol → ℕ × Piece
end_from n piece [] = (n, piece)
end_from n piece (s ∷ ss) =
    elim (continues piece s) as (λ _. ℕ × Piece)
    [ Some longer ↦ end_from (n + length s.text) longer ss | None ↦ (n, piece) ]

abbrev pub first_end : List Symbol → ℕ × Piece
first_end [] = (0, Bad)
first_end (s ∷ ss) = end_from (length s.text) (begins s) ss

-- where the last of the tokens ends, if there is one
abbrev pub end_of_last : List PlacedToken → Option ℕ
end_of_last tokens = option_map (λ t. t.stop) (slice_get tokens (length tokens - 1))
