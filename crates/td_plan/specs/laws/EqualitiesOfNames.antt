-- The value of an expression depends only on what the tuples in scope give to the names in it.
use Rattle.std.specs.Prelude.{◌≡◌, ℕ, List, ◌∷◌, IsTrue}
use Rattle.std.specs.List.{Contains}
use Rattle.td_check.specs.laws.WrittenNames.{names_in}
use Rattle.td_tree.specs.model.Trees.{Tree}
use Rattle.td_types.specs.model.Headings.{has_attribute, has_name}
use Rattle.td_types.specs.model.Types.{Heading}
use Rattle.td_value.specs.model.Values.{Tuple, Relation, IsRelation}
use Rattle.td_eval.specs.model.TreeValues.{value_of}
use Rattle.td_eval.specs.model.Worlds.{World, innermost_value}
use Rattle.td_plan.specs.laws.Equalities.{AsksOnlyOf}

-- an expression has the same value or causes where tuples in scope give its names the same values
abbrev pub ValuesDependOnNames : Type 0
ValuesDependOnNames =
    (w : World) (s u : List Tuple) (e : Tree)
    → ((n : List ℕ) → Contains (names_in e) n → innermost_value n s ≡ innermost_value n u)
    → value_of w s e ≡ value_of w u e

-- of the heading's attributes, none but these stands as an expression in the expression
abbrev pub NamesOnly : List (List ℕ) → Heading → Tree → Type 0
NamesOnly names h e = (n : List ℕ) → Contains (names_in e) n → IsTrue (has_attribute n h) → IsTrue (has_name n names)

-- the value of an expression in a tuple depends on the tuple's part on these names alone
abbrev pub NamesAreWhatIsAsked : Type 0
NamesAreWhatIsAsked =
    (w : World) (s : List Tuple) (e : Tree) (names : List (List ℕ)) (r : Relation) → IsRelation r → NamesOnly names r.heading e
    → AsksOnlyOf names r (λ t. value_of w (t ∷ s) e)
