-- Reserved words in groups, each under the letter that its words begin with.
use Rattle.std.specs.Prelude.{◌≡◌, ℕ, Bool, true, false, List, [], ◌∷◌, ◌&&◌, nat_eq, not}
use Rattle.std.specs.Char.{to_ascii_lowercase}
use Rattle.std.specs.List.{flat_map, list_all}
use Rattle.td_tree.specs.declared.keyword.Keyword.{Keyword}
use Rattle.td_tree.specs.model.Keywords.{keywords, word_of}

-- whether a word begins with this letter, which is in lower case
unfoldable pub begins : ℕ → List ℕ → Bool
begins letter [] = false
begins letter (c ∷ cs) = nat_eq (to_ascii_lowercase c) letter

-- groups of any form: the letter of each, and its words
module _ {X : Type 0} (letter : X → ℕ) (words : X → List Keyword) where
  -- whether each word stands under its letter
  abbrev pub are_grouped : List X → Bool
  are_grouped = list_all (λ g. list_all (λ k. begins (letter g) (word_of k)) (words g))

  -- whether no letter comes twice
  unfoldable pub are_apart : List X → Bool
  are_apart [] = true
  are_apart (g ∷ gs) = list_all (λ h. not (nat_eq (letter h) (letter g))) gs && are_apart gs

  -- every reserved word, in groups by first letter
  abbrev pub AreInitials : List X → Type 0
  AreInitials gs = (flat_map words gs ≡ keywords) × (are_grouped gs ≡ true) × (are_apart gs ≡ true)
