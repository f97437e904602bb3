-- Declared types (Tutorial D's), the type that is meant where they are known, and rank (this project's own).
use Rattle.std.specs.Prelude.{◌≡◌, ℕ, ◌+◌, max, Bool, not, List, [], ◌∷◌, ◌++◌, fold, nat_le, Option, Some, None, is_some, if◌then◌else◌, IsTrue, ⊤}
use Rattle.std.specs.List.{Contains, position, AllByRecursion}
use Rattle.td_tree.specs.declared.cause.Cause.TheVariants as causes
use Rattle.td_tree.specs.model.Names.{IsName}
use Rattle.td_tree.specs.model.Outcomes.{Outcome, Valued, Refused, Only, with_value, with_both, value_if}
use Rattle.td_tree.specs.model.Trees.{Tree, TypeTree, AttributeTrees, no_attributes, attribute}
use Rattle.td_tree.specs.model.Trees as trees
use Rattle.td_types.specs.model.Headings.{are_distinct, made_heading}
use Rattle.td_types.specs.model.Types.{Type', boolean, integer, char, user, tuple, relation, Attrs, no_attrs, attr, Attribute, Heading, IsType, attribute_names, pack, same_name}
use Rattle.td_tree.specs.model.WrittenTrees.{IsWritten}

-- a declared type: its name, its components with their types in declared order, and its constraint
pub record DeclaredType : Type 0 where
  pub name : List ℕ
  pub components : List Attribute
  pub constraint : Option Tree

-- a declared type by its parts
abbrev pub declared_type : List ℕ → List Attribute → Option Tree → DeclaredType
declared_type name components constraint = record { name = name; components = components; constraint = constraint }

-- the declared type of a name
abbrev pub declared_at : List ℕ → List DeclaredType → Option DeclaredType
declared_at name [] = None
declared_at name (d ∷ ds) = if same_name d.name name then Some d else declared_at name ds

-- the place of the declared type of a name
abbrev pub declared_place : List ℕ → List DeclaredType → Option ℕ
declared_place name = position (λ d. same_name d.name name)

-- whether a type of the name is declared
abbrev pub is_declared : List ℕ → List DeclaredType → Bool
is_declared name ds = is_some (declared_at name ds)

-- ---- the type that a type tree means where these types are declared, or the causes for which it means none

abbrev mutual
  -- a user type's name must be declared: else NAME_UNKNOWN
  pub type_meant : List DeclaredType → TypeTree → Outcome Type'
  type_meant ds trees.integer = Valued integer
  type_meant ds trees.char = Valued char
  type_meant ds trees.boolean = Valued boolean
  type_meant ds (trees.user name) = value_if (is_declared name ds) (user name) causes.NameUnknown
  type_meant ds (trees.tuple_type heading) =
      with_value (attributes_meant ds heading) (λ attributes. with_value (made_heading attributes) (λ h. Valued (tuple (pack h))))
  type_meant ds (trees.relation_type heading) =
      with_value (attributes_meant ds heading) (λ attributes. with_value (made_heading attributes) (λ h. Valued (relation (pack h))))

  -- the attributes, in the order written
  pub attributes_meant : List DeclaredType → AttributeTrees → Outcome (List Attribute)
  attributes_meant ds no_attributes = Valued []
  attributes_meant ds (attribute name ty rest) =
      with_both (type_meant ds ty) (attributes_meant ds rest) (λ t attributes. Valued ((name, t) ∷ attributes))

-- the heading that names with their types mean: a name twice is HEADING
abbrev pub heading_meant : List DeclaredType → AttributeTrees → Outcome Heading
heading_meant ds heading = with_value (attributes_meant ds heading) made_heading

-- ---- rank: INTEGER, CHAR and BOOLEAN have rank 1, a user, tuple or relation type one more than the greatest rank among
-- its components or attributes, and 1 where it has none

abbrev mutual
  -- where the ranks of user types are these
  pub rank_over : (List ℕ → Outcome ℕ) → Type' → Outcome ℕ
  rank_over ranks boolean = Valued 1
  rank_over ranks integer = Valued 1
  rank_over ranks char = Valued 1
  rank_over ranks (user name) = ranks name
  rank_over ranks (tuple heading) = with_value (greatest_rank ranks heading) (λ greatest. Valued (greatest + 1))
  rank_over ranks (relation heading) = with_value (greatest_rank ranks heading) (λ greatest. Valued (greatest + 1))

  -- the greatest among those of the attributes
  pub greatest_rank : (List ℕ → Outcome ℕ) → Attrs → Outcome ℕ
  greatest_rank ranks no_attrs = Valued 0
  greatest_rank ranks (attr name ty rest) =
      with_both (rank_over ranks ty) (greatest_rank ranks rest) (λ first others. Valued (max first others))

-- the ranks where one more type is declared: its own is that of a tuple of its components
abbrev pub with_rank : (List ℕ → Outcome ℕ) → DeclaredType → List ℕ → Outcome ℕ
with_rank ranks d name =
    if same_name d.name name then rank_over ranks (tuple (pack d.components)) else ranks name

-- the ranks of the declared types; a name that is not declared has none
abbrev pub user_ranks : List DeclaredType → List ℕ → Outcome ℕ
user_ranks = fold with_rank (λ name. Refused (Only causes.NameUnknown))

-- the rank of a type where these types are declared
abbrev pub rank_of : List DeclaredType → Type' → Outcome ℕ
rank_of ds = rank_over (user_ranks ds)

-- the greatest rank of a declared type and of a relvar's type
abbrev pub rank_limit : ℕ
rank_limit = 32

-- the rank, where it is within the limit: else RANK
abbrev pub limited_rank : List DeclaredType → Type' → Outcome ℕ
limited_rank ds t = with_value (rank_of ds t) (λ rank. value_if (nat_le rank rank_limit) rank causes.Rank)

-- ---- lists of types that can be declared in their order

abbrev mutual
  -- the user types in a type are declared, at every depth
  pub IsKnown : List DeclaredType → Type' → Type 0
  IsKnown ds boolean = ⊤
  IsKnown ds integer = ⊤
  IsKnown ds char = ⊤
  IsKnown ds (user name) = IsTrue (is_declared name ds)
  IsKnown ds (tuple heading) = AreKnown ds heading
  IsKnown ds (relation heading) = AreKnown ds heading

  pub AreKnown : List DeclaredType → Attrs → Type 0
  AreKnown ds no_attrs = ⊤
  AreKnown ds (attr name ty rest) = IsKnown ds ty × AreKnown ds rest

-- a type that can be declared after these: its name is new, it has a component, its components' names are distinct, and
-- their types are types whose user types are declared
pub record IsDeclarable (earlier : List DeclaredType) (d : DeclaredType) : Type 0 where
  pub named : IsName d.name
  pub new : IsTrue (not (is_declared d.name earlier))
  pub has_component : d.components ≡ [] → ⊥
  pub distinct : IsTrue (are_distinct (attribute_names d.components))
  pub names : (a : Attribute) → Contains d.components a → IsName a.0
  pub types : (a : Attribute) → Contains d.components a → IsType a.1
  pub known : (a : Attribute) → Contains d.components a → IsKnown earlier a.1

-- each type can be declared after those that stand before it
abbrev pub AreDeclared : List DeclaredType → Type 0
AreDeclared ds =
    (earlier later : List DeclaredType) (d : DeclaredType) → ds ≡ earlier ++ (d ∷ later) → IsDeclarable earlier d

-- the names and texts in the constraint of each type are such as every expression has
abbrev pub ConstraintsAreWritten : List DeclaredType → Type 0
ConstraintsAreWritten = AllByRecursion (λ d. (e : Tree) → d.constraint ≡ Some e → IsWritten e)
