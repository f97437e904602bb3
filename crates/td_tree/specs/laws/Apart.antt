-- Texts that stand apart: no two neighbours could be one piece (this project's own).
use Rattle.std.specs.Prelude.{◌≡◌, ⊤, IsUtf8, ℕ, List, [], ◌∷◌, Some, None, map}
use Rattle.std.specs.List.{flat_map}
use Rattle.td_tree.specs.declared.piece.Piece.{Piece}
use Rattle.td_tree.specs.model.Pieces.{continues, pieces, state}
use Rattle.td_tree.specs.model.Statements.{tokens}
use Rattle.td_tree.specs.model.Symbols.{Symbol, symbols}
use Rattle.td_tree.specs.model.TokenLexemes.{lexemes}

-- a text that is a piece, with which the first symbol of what follows does not go on
pub record IsApart (text rest : List ℕ) : Type 0 where
  pub utf8 : IsUtf8 text
  pub piece : Piece
  pub is : state (symbols text) ≡ Some piece
  pub ends : (next : Symbol) (others : List Symbol) → symbols rest ≡ next ∷ others
      → continues piece next ≡ None

-- the texts joined
abbrev pub joined_texts : List (List ℕ) → List ℕ
joined_texts = flat_map (λ text. text)

-- each stands apart from those that follow
abbrev pub AreApart : List (List ℕ) → Type 0
AreApart [] = ⊤
AreApart (text ∷ texts) = IsApart text (joined_texts texts) × AreApart texts

-- ---- laws

-- texts that stand apart are the pieces of what they make
abbrev pub TextsApartAreThePieces : Type 0
TextsApartAreThePieces =
    (texts : List (List ℕ)) → AreApart texts → pieces (joined_texts texts) ≡ map symbols texts

-- the grammar sees the texts joined by spaces as it sees each text
abbrev pub TextsApartAreSeenEach : Type 0
TextsApartAreSeenEach =
    (at : ℕ) (texts : List (List ℕ)) → AreApart texts
    → lexemes (tokens at (joined_texts texts)) ≡ flat_map (λ text. lexemes (tokens 0 text)) texts
