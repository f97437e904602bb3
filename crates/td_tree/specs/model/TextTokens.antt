-- Texts in quotes: their bytes, and what they say (this project's own).
use Rattle.std.specs.Prelude.{◌≡◌, ℕ, ◌-◌, ◌==◌, if◌then◌else◌, List, [], ◌∷◌, ◌++◌, length, take, drop, IsUtf8}

-- each quote doubled
abbrev pub with_quotes_doubled : List ℕ → List ℕ
with_quotes_doubled [] = []
with_quotes_doubled (b ∷ bs) = if b == 39 then 39 ∷ 39 ∷ with_quotes_doubled bs else b ∷ with_quotes_doubled bs

-- the text in quotes that says these bytes
abbrev pub text_in_quotes : List ℕ → List ℕ
text_in_quotes said = 39 ∷ (with_quotes_doubled said ++ 39 ∷ [])

-- the bytes of a text, where each two quotes become one
abbrev pub with_quotes_undoubled : List ℕ → List ℕ
with_quotes_undoubled [] = []
with_quotes_undoubled (b ∷ []) = b ∷ []
with_quotes_undoubled (b ∷ c ∷ bs) = if b == 39 then 39 ∷ with_quotes_undoubled bs else b ∷ with_quotes_undoubled (c ∷ bs)

-- what a text in quotes says: the bytes between its outer quotes, of each two quotes one
abbrev pub content : List ℕ → List ℕ
content text = with_quotes_undoubled (take (length text - 2) (drop 1 text))

-- the bytes are a text in quotes that says UTF-8
pub record IsQuotedText (text : List ℕ) : Type 0 where
  pub said : List ℕ
  pub utf8 : IsUtf8 said
  pub is : text ≡ text_in_quotes said
