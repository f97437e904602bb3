-- What the symbols, pieces, tokens and statements of a script are, by what holds of them (this
-- project's own).
use Rattle.std.specs.Prelude.{◌≡◌, ◌++◌, encode_utf8, ℕ, List, [], ◌∷◌, Option, Some, None, length, ◌⊎◌, ⊤, ◌↔◌}
use Rattle.std.specs.Char.{IsScalar}
use Rattle.td_tree.specs.model.Symbols.{Symbol, symbols}
use Rattle.td_tree.specs.model.Division as division
use Rattle.td_tree.specs.model.Pieces.{begins, continues}
use Rattle.td_tree.specs.model.Statements.{IsEnded, IsUnended, PlacedToken}
use Rattle.td_tree.specs.model.Lexemes.{bad}
use Rattle.td_tree.specs.declared.token.Kind.TheVariants as kinds
use Rattle.td_tree.specs.model.TokenLexemes.{lexeme_of}

-- the character stands here in UTF-8; where none begins, one byte stands for itself
abbrev pub IsFront : Option ℕ → List ℕ → List ℕ → Type 0
IsFront (Some c) text bytes = IsScalar c × (text ≡ encode_utf8 c)
IsFront None text bytes =
    (length text ≡ 1) × ((c : ℕ) (rest : List ℕ) → IsScalar c → bytes ≡ encode_utf8 c ++ rest → ⊥)

-- these symbols spell the bytes, each the character that begins there, or a byte where none does
abbrev pub AreSymbols : List Symbol → List ℕ → Type 0
AreSymbols [] bytes = bytes ≡ []
AreSymbols (s ∷ ss) bytes =
    (rest : List ℕ) × (bytes ≡ s.text ++ rest) × IsFront s.character s.text bytes
    × AreSymbols ss rest

-- these are the longest pieces of the bytes
abbrev pub AreLongest : List (List Symbol) → List ℕ → Type 0
AreLongest ps bytes = division.IsDivision begins continues ps (symbols bytes)

-- each goes up to and with its `;`; the last may be tokens left
abbrev pub AreStatements : List (List PlacedToken) → Type 0
AreStatements [] = ⊤
AreStatements (s ∷ []) = IsEnded s ⊎ IsUnended s
AreStatements (s ∷ t ∷ ss) = IsEnded s × AreStatements (t ∷ ss)

-- the grammar sees those tokens as bad whose kind is bad, and no other
abbrev pub AreBadWhereSeen : List PlacedToken → Type 0
AreBadWhereSeen [] = ⊤
AreBadWhereSeen (t ∷ ts) =
    ((lexeme_of t.kind t.text ≡ bad) ↔ (t.kind ≡ kinds.Bad)) × AreBadWhereSeen ts
