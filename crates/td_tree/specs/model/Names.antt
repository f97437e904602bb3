-- Names (this project's own rule, over Unicode's identifiers).
use Rattle.std.specs.Prelude.{ℕ, Bool, false, not, ◌&&◌, ◌||◌, ◌==◌, List, [], ◌∷◌, take, codes, is_some, IsTrue, IsUtf8}
use Rattle.std.specs.List.{list_all}
use Rattle.std.specs.Str.{chars, str_eq_ignore_ascii_case}
use Rattle.unicode_ident.specs.Ident.{is_xid_start, is_xid_continue}
use Rattle.td_tree.specs.model.Keywords.{keyword_of}

-- a character that begins a word: one that may start an identifier, or `_`
abbrev pub is_word_start : ℕ → Bool
is_word_start c = is_xid_start c || (c == 95)

-- a character that goes on with a word: one that may continue an identifier, `_` or `#`
abbrev pub is_word_more : ℕ → Bool
is_word_more c = is_xid_continue c || (c == 95) || (c == 35)

-- the characters of a word
abbrev pub is_word : List ℕ → Bool
is_word [] = false
is_word (c ∷ cs) = is_word_start c && list_all is_word_more cs

-- a text that begins with THE_ in any ASCII case
abbrev pub begins_the : List ℕ → Bool
begins_the text = str_eq_ignore_ascii_case (take 4 text) (codes "THE_")

-- a word that is no reserved word and no THE word
unfoldable pub is_name : List ℕ → Bool
is_name text = is_word (chars text) && not (is_some (keyword_of text)) && not (begins_the text)

-- what every name is
pub record IsName (text : List ℕ) : Type 0 where
  pub utf8 : IsUtf8 text
  pub named : IsTrue (is_name text)
