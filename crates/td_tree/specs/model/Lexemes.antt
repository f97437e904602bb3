-- What the grammar sees of a token (this project's own).
use Rattle.std.specs.Prelude.{ℕ, List, [], ◌∷◌, ◌++◌, codes}
use Rattle.std.specs.Fmt.{decimal}
use Rattle.td_tree.specs.declared.keyword.Keyword.{Keyword}
use Rattle.td_tree.specs.declared.token.Sign.{Sign}
use Rattle.td_tree.specs.model.Keywords.{word_of}
use Rattle.td_tree.specs.model.Signs.{sign_text}
use Rattle.td_tree.specs.model.TextTokens.{text_in_quotes}

-- a token without its spelling: a reserved word in any case is that word, digits are their number,
-- a text is what it says; of a THE word the rest stays
pub data Lexeme : Type 0 where
  keyword : Keyword → Lexeme
  sign : Sign → Lexeme
  name : List ℕ → Lexeme
  component : List ℕ → Lexeme
  number : ℕ → Lexeme
  text : List ℕ → Lexeme
  bad : Lexeme

-- how it is printed: reserved words in capitals, numbers without leading zeros
abbrev pub printed_text : Lexeme → List ℕ
printed_text (keyword k) = word_of k
printed_text (sign s) = sign_text s
printed_text (name n) = n
printed_text (component rest) = codes "THE_" ++ rest
printed_text (number n) = decimal n
printed_text (text said) = text_in_quotes said
printed_text bad = []

-- one space between two
abbrev pub spaced_text : List Lexeme → List ℕ
spaced_text [] = []
spaced_text (l ∷ []) = printed_text l
spaced_text (l ∷ m ∷ ls) = printed_text l ++ 32 ∷ spaced_text (m ∷ ls)
