-- What the tests of names tell.
use Rattle.std.specs.Prelude.{◌≡◌, ◌↔◌, ℕ, List, Some, IsTrue}
use Rattle.std.specs.List.{Contains, slice_get}
use Rattle.td_types.specs.model.Headings.{are_distinct, has_name}

-- no name stands at two places
abbrev pub AreDistinct : List (List ℕ) → Type 0
AreDistinct names = (i j : ℕ) (n : List ℕ) → slice_get names i ≡ Some n → slice_get names j ≡ Some n → i ≡ j

-- ---- laws

-- a name is among names where the list contains it, and names are distinct where none stands at two places
abbrev pub NameTestsTell : Type 0
NameTestsTell =
    ((n : List ℕ) (names : List (List ℕ)) → IsTrue (has_name n names) ↔ Contains names n)
    × ((names : List (List ℕ)) → IsTrue (are_distinct names) ↔ AreDistinct names)
