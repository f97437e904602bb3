-- What the pieces are, said of their characters in the language's own words (this project's own).
-- None is a byte that begins no character.
use Rattle.std.specs.Prelude.{◌≡◌, ℕ, Bool, false, not, ◌&&◌, if◌then◌else◌, List, [], ◌∷◌, ◌++◌, map, Option, Some, IsTrue}
use Rattle.std.specs.Char.{is_ascii_digit}
use Rattle.std.specs.List.{list_all}
use Rattle.td_tree.specs.declared.piece.Piece.{Piece}
use Rattle.td_tree.specs.declared.piece.Piece.TheVariants as pieces_are
use Rattle.td_tree.specs.declared.token.Sign.{Sign}
use Rattle.td_tree.specs.model.Pieces.{is_blank, is_character, passes}
use Rattle.td_tree.specs.model.Names.{is_word_start, is_word_more}
use Rattle.td_tree.specs.model.Signs.{sign_text}
use Rattle.td_tree.specs.model.Symbols.{Symbol}

-- the characters of a piece
abbrev pub characters : List Symbol → List (Option ℕ)
characters = map (λ (s : Symbol). s.character)

-- one that passes the first test, and then any number that pass the second
abbrev pub start_and_rest : (ℕ → Bool) → (ℕ → Bool) → List (Option ℕ) → Bool
start_and_rest first more [] = false
start_and_rest first more (c ∷ cs) = passes first c && list_all (passes more) cs

-- a start, and then what goes on with a word
abbrev pub is_word_spelled : List (Option ℕ) → Bool
is_word_spelled = start_and_rest is_word_start is_word_more

-- one or more digits
abbrev pub is_number_spelled : List (Option ℕ) → Bool
is_number_spelled = start_and_rest is_ascii_digit is_ascii_digit

-- one blank
abbrev pub is_blank_spelled : List (Option ℕ) → Bool
is_blank_spelled = start_and_rest is_blank (λ c. false)

-- the characters of a sign
abbrev pub spelling : Sign → List (Option ℕ)
spelling sign = map Some (sign_text sign)

-- a `|` alone
abbrev pub bar : List (Option ℕ)
bar = Some 124 ∷ []

-- a quote alone
abbrev pub quote : List (Option ℕ)
quote = Some 39 ∷ []

-- each quote doubled
abbrev pub quotes_doubled : List (Option ℕ) → List (Option ℕ)
quotes_doubled [] = []
quotes_doubled (c ∷ cs) =
    if is_character 39 c then quote ++ (quote ++ quotes_doubled cs) else c ∷ quotes_doubled cs

-- a quote, and then anything in which each quote is doubled
pub record IsOpenText (cs : List (Option ℕ)) : Type 0 where
  pub said : List (Option ℕ)
  pub is : cs ≡ quote ++ quotes_doubled said

-- a text in quotes, in which each quote is doubled
pub record IsText (cs : List (Option ℕ)) : Type 0 where
  pub said : List (Option ℕ)
  pub is : cs ≡ quote ++ (quotes_doubled said ++ quote)

-- `/` and `*`
abbrev pub comment_start : List (Option ℕ)
comment_start = Some 47 ∷ Some 42 ∷ []

-- `*` and `/`
abbrev pub comment_end : List (Option ℕ)
comment_end = Some 42 ∷ Some 47 ∷ []

-- a `*` is the last
pub record EndsInStar (cs : List (Option ℕ)) : Type 0 where
  pub before : List (Option ℕ)
  pub is : cs ≡ before ++ Some 42 ∷ []

-- `*` and `/` stand nowhere in these side by side
abbrev pub HasNoEnd : List (Option ℕ) → Type 0
HasNoEnd cs = (before after : List (Option ℕ)) → cs ≡ before ++ (comment_end ++ after) → ⊥

-- `/*`, and then anything in which there is no `*/`
pub record IsOpenComment (cs : List (Option ℕ)) : Type 0 where
  pub inside : List (Option ℕ)
  pub is : cs ≡ comment_start ++ inside
  pub no_end : HasNoEnd inside
  pub no_star : EndsInStar inside → ⊥

-- `/*`, and then anything in which there is no `*/`, whose last character is a `*`
pub record IsStarredComment (cs : List (Option ℕ)) : Type 0 where
  pub inside : List (Option ℕ)
  pub is : cs ≡ comment_start ++ inside
  pub no_end : HasNoEnd inside
  pub star : EndsInStar inside

-- `/*`, anything in which there is no `*/`, and `*/`
pub record IsComment (cs : List (Option ℕ)) : Type 0 where
  pub inside : List (Option ℕ)
  pub is : cs ≡ comment_start ++ (inside ++ comment_end)
  pub no_end : HasNoEnd inside

-- `//`, and then anything but a line feed
pub record IsLineComment (cs : List (Option ℕ)) : Type 0 where
  pub inside : List (Option ℕ)
  pub is : cs ≡ Some 47 ∷ Some 47 ∷ inside
  pub line : IsTrue (list_all (λ c. not (is_character 10 c)) inside)

-- one symbol that begins none of the others
pub record IsBadSpelled (cs : List (Option ℕ)) : Type 0 where
  pub symbol : Option ℕ
  pub one : cs ≡ symbol ∷ []
  pub no_blank : IsTrue (is_blank_spelled cs) → ⊥
  pub no_word : IsTrue (is_word_spelled cs) → ⊥
  pub no_number : IsTrue (is_number_spelled cs) → ⊥
  pub no_sign : (sign : Sign) → cs ≡ spelling sign → ⊥
  pub no_bar : cs ≡ bar → ⊥
  pub no_quote : cs ≡ quote → ⊥

-- what the piece is that the machine leaves so
abbrev pub IsSpelled : Piece → List (Option ℕ) → Type 0
IsSpelled pieces_are.Blank cs = IsTrue (is_blank_spelled cs)
IsSpelled pieces_are.Word cs = IsTrue (is_word_spelled cs)
IsSpelled pieces_are.Number cs = IsTrue (is_number_spelled cs)
IsSpelled (pieces_are.Sign sign) cs = cs ≡ spelling sign
IsSpelled pieces_are.Bar cs = cs ≡ bar
IsSpelled pieces_are.OpenText cs = IsOpenText cs
IsSpelled pieces_are.Text cs = IsText cs
IsSpelled pieces_are.LineComment cs = IsLineComment cs
IsSpelled pieces_are.OpenComment cs = IsOpenComment cs
IsSpelled pieces_are.StarredComment cs = IsStarredComment cs
IsSpelled pieces_are.Comment cs = IsComment cs
IsSpelled pieces_are.Bad cs = IsBadSpelled cs
