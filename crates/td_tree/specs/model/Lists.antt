-- Lists and optional parts, as the grammar writes them. An item is what these lexemes spell.
use Rattle.std.specs.Prelude.{List, [], ◌∷◌, ◌++◌, Option, Some, None}
use Rattle.td_tree.specs.declared.token.Sign.TheVariants as signs
use Rattle.td_tree.specs.model.Lexemes.{Lexeme, sign}

-- item,+
pub data Separated {A : Type 0} (Item : List Lexeme → A → Type 0) : List Lexeme → List A
    → Type 0 where
  one_item : {xs : List Lexeme} {a : A} → Item xs a → Separated Item xs (a ∷ [])
  next_item : {xs ys : List Lexeme} {a : A} {rest : List A} → Item xs a → Separated Item ys rest
      → Separated Item (xs ++ (sign signs.Comma ∷ ys)) (a ∷ rest)

-- item,*
pub data Listed {A : Type 0} (Item : List Lexeme → A → Type 0) : List Lexeme → List A → Type 0 where
  no_items : Listed Item [] []
  some_items : {xs : List Lexeme} {all : List A} → Separated Item xs all → Listed Item xs all

-- item*
pub data Repeated {A : Type 0} (Item : List Lexeme → A → Type 0) : List Lexeme → List A
    → Type 0 where
  no_more : Repeated Item [] []
  one_more : {xs ys : List Lexeme} {a : A} {rest : List A} → Item xs a → Repeated Item ys rest
      → Repeated Item (xs ++ ys) (a ∷ rest)

-- [item]
pub data Optional {A : Type 0} (Item : List Lexeme → A → Type 0) : List Lexeme → Option A
    → Type 0 where
  absent : Optional Item [] None
  present : {xs : List Lexeme} {a : A} → Item xs a → Optional Item xs (Some a)

-- '{' .. '}'
abbrev pub with_braces : List Lexeme → List Lexeme
with_braces xs = sign signs.OpenBrace ∷ (xs ++ (sign signs.CloseBrace ∷ []))

-- '(' .. ')'
abbrev pub with_parentheses : List Lexeme → List Lexeme
with_parentheses xs = sign signs.OpenParenthesis ∷ (xs ++ (sign signs.CloseParenthesis ∷ []))
