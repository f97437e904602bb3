-- Texts that are tokens with one space between (this project's own).
use Rattle.std.specs.Prelude.{◌≡◌, ℕ, List, [], ◌∷◌, ◌++◌, map}
use Rattle.td_tree.specs.declared.operator.Level.{Level}
use Rattle.td_tree.specs.model.Grammar.{IsExpression, Spelling, TypeSpelling}
use Rattle.td_tree.specs.model.Lexemes.{Lexeme}
use Rattle.td_tree.specs.model.Prints.{lexemes_of, print, type_lexemes, type_print}
use Rattle.td_tree.specs.model.Statements.{PlacedToken, tokens}
use Rattle.td_tree.specs.model.TokenLexemes.{lexemes}
use Rattle.td_tree.specs.model.Trees.{Tree, TypeTree}

-- texts with one space between two (own)
abbrev pub with_spaces : List (List ℕ) → List ℕ
with_spaces [] = []
with_spaces (t ∷ []) = t
with_spaces (t ∷ u ∷ ts) = t ++ 32 ∷ with_spaces (u ∷ ts)

-- the bytes of each token (own)
abbrev pub texts_of : List PlacedToken → List (List ℕ)
texts_of = map (λ (token : PlacedToken). token.text)

-- the grammar sees the tokens of a text as these lexemes, and the text is its tokens with one space
-- between (own)
pub record IsSpaced (text : List ℕ) (seen : List Lexeme) : Type 0 where
  pub tokens_are : lexemes (tokens 0 text) ≡ seen
  pub text_is : text ≡ with_spaces (texts_of (tokens 0 text))

-- whatever spells an expression is the expression's own lexemes
abbrev pub AreItsOwnLexemes : Type 0
AreItsOwnLexemes =
    (level : Level) (xs : List Lexeme) (t : Tree) → Spelling level xs t → xs ≡ lexemes_of t

-- whatever spells a type is the type's own lexemes
abbrev pub AreItsOwnTypeLexemes : Type 0
AreItsOwnTypeLexemes = (xs : List Lexeme) (t : TypeTree) → TypeSpelling xs t → xs ≡ type_lexemes t

-- the text of an expression that some tokens spell is tokens that are seen as these, one space
-- between two
abbrev pub PrintIsSpaced : Type 0
PrintIsSpaced = (level : Level) (ts : List PlacedToken) (t : Tree) → IsExpression level (lexemes ts) t
    → IsSpaced (print t) (lexemes ts)

-- the text of a type that some tokens spell is tokens that are seen as these, one space between two
abbrev pub TypePrintIsSpaced : Type 0
TypePrintIsSpaced =
    (ts : List PlacedToken) (t : TypeTree) → TypeSpelling (lexemes ts) t
    → IsSpaced (type_print t) (lexemes ts)
