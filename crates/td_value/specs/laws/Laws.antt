-- What the order of values and their literals are to their callers.
use Rattle.std.specs.Prelude.{◌≡◌, ◌↔◌, ◌⊎◌, ◌++◌, IsTrue, ℕ, List}
use Rattle.std.specs.Ordering.{eq_by_cmp}
use Rattle.std.specs.Cmp.Lexicographic.{slice_cmp}
use Rattle.std.specs.List.{Contains}
use Rattle.td_types.specs.model.Types.{IsType}
use Rattle.td_value.specs.model.Literal.{literal}
use Rattle.td_value.specs.model.Sets.{set_of}
use Rattle.td_value.specs.model.Values.{Val, user, Tuple, Relation, HaveSameMembers, IsRelation, IsValue, tuple_names, value_cmp, pack_parts, relation_cmp, tuple_cmp, type_of}
use Rattle.td_value.specs.code.Views.{values_of}

-- values, tuples and relations are equal as the code compares them exactly where they are the same
abbrev pub EqualityIsSameness : Type 0
EqualityIsSameness =
    ((v w : Val) → IsTrue (eq_by_cmp value_cmp v w) ↔ (v ≡ w))
    × ((s t : Tuple) → IsTrue (eq_by_cmp tuple_cmp s t) ↔ (s ≡ t))
    × ((r s : Relation) → IsTrue (eq_by_cmp relation_cmp r s) ↔ (r ≡ s))

-- tuples of the same names compare as their values do, in name order
abbrev pub TuplesCompareByValues : Type 0
TuplesCompareByValues =
    (s t : Tuple) → tuple_names s ≡ tuple_names t → tuple_cmp s t ≡ slice_cmp value_cmp (values_of s) (values_of t)

-- values of one user type compare as their components do, in declared order
abbrev pub UserValuesCompareByComponents : Type 0
UserValuesCompareByComponents =
    (n : List ℕ) (vs ws : List Val)
    → value_cmp (user n (pack_parts vs)) (user n (pack_parts ws)) ≡ slice_cmp value_cmp vs ws

-- relations of one heading compare as their ascending lists do
abbrev pub RelationsCompareByRows : Type 0
RelationsCompareByRows =
    (r s : Relation) → r.heading ≡ s.heading → relation_cmp r s ≡ slice_cmp tuple_cmp r.body s.body

-- the type of a value is a type, so that every heading in it is a heading
abbrev pub TypesOfValuesAreTypes : Type 0
TypesOfValuesAreTypes = (v : Val) → IsValue v → IsType (type_of v)

-- the set of a list of tuples has the members of the list, and no other
abbrev pub SetsHaveTheMembersOfTheirLists : Type 0
SetsHaveTheMembersOfTheirLists = (ts : List Tuple) → HaveSameMembers (set_of tuple_cmp ts) ts

-- the set of two lists joined has the members of either, and no other
abbrev pub SetsOfJoinedLists : Type 0
SetsOfJoinedLists =
    (ss ts : List Tuple) (t : Tuple)
    → Contains (set_of tuple_cmp (ss ++ ts)) t ↔ (Contains ss t ⊎ Contains ts t)

-- a relation is its heading and its members: two of one heading with the same members are one (the chapter's)
abbrev pub RelationsAreTheirMembers : Type 0
RelationsAreTheirMembers =
    (r s : Relation) → IsRelation r → IsRelation s → r.heading ≡ s.heading
    → HaveSameMembers r.body s.body → r ≡ s

-- two values have one literal exactly where they are one, whatever their types are
abbrev pub LiteralsTellValuesApart : Type 0
LiteralsTellValuesApart = (v w : Val) → IsValue v → IsValue w → (literal v ≡ literal w) ↔ (v ≡ w)
