-- The user values in a value, and the constraints of their types (Tutorial D's).
use Rattle.std.specs.Prelude.{◌≡◌, ℕ, true, List, ◌∷◌, ◌++◌, ⊤}
use Rattle.td_eval.specs.model.DatabaseWorlds.{constraint_value, world_of_types}
use Rattle.td_eval.specs.model.OperatorValues.{components_of}
use Rattle.td_tree.specs.model.Outcomes.{Valued}
use Rattle.td_types.specs.model.TypeLists.{DeclaredType}
use Rattle.td_value.specs.model.Values.{Val, boolean, integer, char, user, tuple, relation, Parts, no_parts, part, Fields, no_fields, field, Rows, no_rows, row}

-- P holds of each, at every depth: of its type's name and its components
abbrev mutual
  pub EachUserValue : (List ℕ → Parts → Type 0) → Val → Type 0
  EachUserValue P (boolean b) = ⊤
  EachUserValue P (integer z) = ⊤
  EachUserValue P (char s) = ⊤
  EachUserValue P (user n ps) = P n ps × EachInParts P ps
  EachUserValue P (tuple fs) = EachInFields P fs
  EachUserValue P (relation h rs) = EachInRows P rs

  pub EachInParts : (List ℕ → Parts → Type 0) → Parts → Type 0
  EachInParts P no_parts = ⊤
  EachInParts P (part v ps) = EachUserValue P v × EachInParts P ps

  pub EachInFields : (List ℕ → Parts → Type 0) → Fields → Type 0
  EachInFields P no_fields = ⊤
  EachInFields P (field n v fs) = EachUserValue P v × EachInFields P fs

  pub EachInRows : (List ℕ → Parts → Type 0) → Rows → Type 0
  EachInRows P no_rows = ⊤
  EachInRows P (row fs rs) = EachInFields P fs × EachInRows P rs

-- the components meet the constraint of the type of the name: it is TRUE of them where the selectors of the types before that
-- type are known
abbrev pub MeetConstraint : List DeclaredType → List ℕ → Parts → Type 0
MeetConstraint ds n ps =
    (earlier later : List DeclaredType) (d : DeclaredType) → ds ≡ earlier ++ (d ∷ later) → d.name ≡ n
    → constraint_value (world_of_types ds earlier) d (components_of ps) ≡ Valued true

-- each user value in it meets the constraint of its type
abbrev pub MeetsConstraints : List DeclaredType → Val → Type 0
MeetsConstraints ds = EachUserValue (MeetConstraint ds)
