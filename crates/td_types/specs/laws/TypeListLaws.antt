-- What holds of lists of declared types: laws.
use Rattle.std.specs.Prelude.{◌≡◌, ◌≤◌, ◌<◌, ◌++◌, ℕ, List, Some, IsTrue}
use Rattle.std.specs.List.{Contains}
use Rattle.td_tree.specs.model.Outcomes.{Valued}
use Rattle.td_tree.specs.model.Trees.{TypeTree}
use Rattle.td_tree.specs.model.WrittenTrees.{HasNames}
use Rattle.td_types.specs.model.TypeLists.{AreDeclared, DeclaredType, IsKnown, declared_at, is_declared, rank_of, type_meant}
use Rattle.td_types.specs.laws.TypeTrees.{type_tree}
use Rattle.td_types.specs.model.Types.{Attribute, IsType, Type', user}

-- what a type tree of names means is a type, and its user types are declared
abbrev pub MeantTypesAreKnown : Type 0
MeantTypesAreKnown =
    (ds : List DeclaredType) (tree : TypeTree) (t : Type') → HasNames tree → type_meant ds tree ≡ Valued t
    → IsType t × IsKnown ds t

-- the tree of a type whose user types are declared means the type
abbrev pub TypeTreesMeanTheirTypes : Type 0
TypeTreesMeanTheirTypes =
    (ds : List DeclaredType) (t : Type') → IsType t → IsKnown ds t → type_meant ds (type_tree t) ≡ Valued t

-- where more types are declared, a name that finds a type finds the same
abbrev pub LaterTypesKeepNames : Type 0
LaterTypesKeepNames =
    (ds more : List DeclaredType) (name : List ℕ) → IsTrue (is_declared name ds)
    → declared_at name (ds ++ more) ≡ declared_at name ds

-- a tree that means a type means the same
abbrev pub LaterTypesKeepMeanings : Type 0
LaterTypesKeepMeanings =
    (ds more : List DeclaredType) (tree : TypeTree) (t : Type') → type_meant ds tree ≡ Valued t
    → type_meant (ds ++ more) tree ≡ Valued t

-- with more types declared, a known type stays known and keeps its rank
abbrev pub LaterTypesKeepRanks : Type 0
LaterTypesKeepRanks =
    (ds more : List DeclaredType) (t : Type') → AreDeclared (ds ++ more) → IsKnown ds t
    → IsKnown (ds ++ more) t × (rank_of (ds ++ more) t ≡ rank_of ds t)

-- a type whose user types are declared has a rank, which is at least 1
abbrev pub KnownTypesHaveRanks : Type 0
KnownTypesHaveRanks =
    (ds : List DeclaredType) (t : Type') → AreDeclared ds → IsKnown ds t
    → (n : ℕ) × (1 ≤ n) × (rank_of ds t ≡ Valued n)

-- the type of each component of a declared type has a lesser rank
abbrev pub ComponentsHaveLesserRanks : Type 0
ComponentsHaveLesserRanks =
    (ds : List DeclaredType) (name : List ℕ) (d : DeclaredType) (a : Attribute) (m n : ℕ) → AreDeclared ds
    → declared_at name ds ≡ Some d → Contains d.components a → rank_of ds a.1 ≡ Valued m
    → rank_of ds (user name) ≡ Valued n → m < n
