-- The operators by membership: which tuples of the result's heading are in the result (Tutorial D's).
use Rattle.std.specs.Prelude.{◌≡◌, ℕ, Bool, IsTrue, ◌↔◌, ◌⊎◌, List, [], ◌++◌, Some}
use Rattle.std.specs.List.{All, Contains}
use Rattle.td_types.specs.model.Headings.{agree, are_distinct, can_rename, has_name, have_no_common, heading_union, new_name, outside, projection, renamed_attributes}
use Rattle.td_types.specs.model.Types.{Heading, attribute_names}
use Rattle.td_value.specs.model.Agreement.{AgreeOn}
use Rattle.td_value.specs.model.Values.{Tuple, Relation, IsRelation, IsTupleOf, projected_tuple, tuple_names, value_at}
use Rattle.td_algebra.specs.model.Operators.{Addition, added_attributes, common_names, composition, difference, extended_relation, intersection, is_disjoint, is_subset, join, own_names, product, projected_relation, relation_names, renamed_relation, restriction, semidifference, semijoin, set_relation, union}

-- the tuple is in the relation
abbrev pub IsIn : Tuple → Relation → Type 0
IsIn t r = Contains r.body t

-- r WHERE p: t is in r and p is TRUE in t
abbrev pub RestrictionByMembership : Type 0
RestrictionByMembership =
    (p : Tuple → Bool) (r : Relation) (t : Tuple) → IsIn t (restriction p r) ↔ (IsIn t r × IsTrue (p t))

-- r {N}: some u agrees with t on N
abbrev pub ProjectionByMembership : Type 0
ProjectionByMembership =
    (names : List (List ℕ)) (r : Relation) (t : Tuple) → IsRelation r → IsTupleOf (projection names r.heading) t
    → IsIn t (projected_relation names r) ↔ ((u : Tuple) × IsIn u r × AgreeOn names t u)

-- t is u with its names changed: each new name has the value of its old one
abbrev pub IsRenamed : List (List ℕ × List ℕ) → Tuple → Tuple → Type 0
IsRenamed renamings u t =
    (name : List ℕ) → IsTrue (has_name name (tuple_names u)) → value_at (new_name renamings name) t ≡ value_at name u

-- r RENAME (..): t is some u with its names changed
abbrev pub RenamingByMembership : Type 0
RenamingByMembership =
    (renamings : List (List ℕ × List ℕ)) (r : Relation) (t : Tuple) → IsRelation r
    → IsTrue (can_rename renamings r.heading) → IsTupleOf (heading_union [] (renamed_attributes renamings r.heading)) t
    → IsIn t (renamed_relation renamings r) ↔ ((u : Tuple) × IsIn u r × IsRenamed renamings u t)

-- the new attributes have names that are distinct and not there
abbrev pub AreNew : List Addition → Relation → Type 0
AreNew additions r =
    IsTrue (are_distinct (attribute_names (added_attributes additions)))
    × IsTrue (have_no_common (added_attributes additions) r.heading)

-- t is u on its names, with each new attribute set to its value in u
abbrev pub IsExtended : List Addition → Relation → Tuple → Tuple → Type 0
IsExtended additions r u t =
    AgreeOn (relation_names r) t u × All (λ (a : Addition). value_at a.name t ≡ Some (a.value u)) additions

-- EXTEND r ADD (..): t is some u with each A set to the value of its e in u
abbrev pub ExtensionByMembership : Type 0
ExtensionByMembership =
    (additions : List Addition) (r : Relation) (t : Tuple) → IsRelation r → AreNew additions r
    → IsTupleOf (heading_union r.heading (added_attributes additions)) t
    → IsIn t (extended_relation additions r) ↔ ((u : Tuple) × IsIn u r × IsExtended additions r u t)

-- the names of r that are set to nothing new
abbrev pub other_names : List Addition → Relation → List (List ℕ)
other_names additions r = attribute_names (outside (added_attributes additions) r.heading)

-- t is u on those names, with each attribute set to its value in u
abbrev pub IsSet : List Addition → Relation → Tuple → Tuple → Type 0
IsSet additions r u t =
    AgreeOn (other_names additions r) t u × All (λ (a : Addition). value_at a.name t ≡ Some (a.value u)) additions

-- the heading with attributes set
abbrev pub set_heading_of : List Addition → Relation → Heading
set_heading_of additions r =
    heading_union (outside (added_attributes additions) r.heading) (added_attributes additions)

-- r with attributes set: t is some u with each A set to its value in u
abbrev pub SettingByMembership : Type 0
SettingByMembership =
    (additions : List Addition) (r : Relation) (t : Tuple) → IsRelation r
    → IsTrue (are_distinct (attribute_names (added_attributes additions))) → IsTupleOf (set_heading_of additions r) t
    → IsIn t (set_relation additions r) ↔ ((u : Tuple) × IsIn u r × IsSet additions r u t)

-- r UNION s: t is in r or in s
abbrev pub UnionByMembership : Type 0
UnionByMembership = (r s : Relation) (t : Tuple) → IsIn t (union r s) ↔ (IsIn t r ⊎ IsIn t s)

-- r INTERSECT s: t is in both
abbrev pub IntersectionByMembership : Type 0
IntersectionByMembership = (r s : Relation) (t : Tuple) → IsIn t (intersection r s) ↔ (IsIn t r × IsIn t s)

-- r MINUS s: t is in r and not in s
abbrev pub DifferenceByMembership : Type 0
DifferenceByMembership = (r s : Relation) (t : Tuple) → IsIn t (difference r s) ↔ (IsIn t r × (IsIn t s → ⊥))

-- r <= s: each t in r is in s
abbrev pub SubsetByMembership : Type 0
SubsetByMembership = (r s : Relation) → IsTrue (is_subset r s) ↔ ((t : Tuple) → IsIn t r → IsIn t s)

-- r and s are disjoint: no t is in both
abbrev pub DisjointByMembership : Type 0
DisjointByMembership = (r s : Relation) → IsTrue (is_disjoint r s) ↔ ((t : Tuple) → IsIn t r → IsIn t s → ⊥)

-- t on r's names is in r and t on s's names is in s
abbrev pub IsInBoth : Relation → Relation → Tuple → Type 0
IsInBoth r s t = IsIn (projected_tuple (relation_names r) t) r × IsIn (projected_tuple (relation_names s) t) s

-- two relations of which no common attribute has two types
abbrev pub AreJoinable : Relation → Relation → Type 0
AreJoinable r s = IsRelation r × IsRelation s × IsTrue (agree r.heading s.heading)

-- r JOIN s: t on r's names is in r and t on s's names is in s
abbrev pub JoinByMembership : Type 0
JoinByMembership =
    (r s : Relation) (t : Tuple) → AreJoinable r s → IsTupleOf (heading_union r.heading s.heading) t
    → IsIn t (join r s) ↔ IsInBoth r s t

-- r TIMES s: the same, where no attribute is common
abbrev pub ProductByMembership : Type 0
ProductByMembership =
    (r s : Relation) (t : Tuple) → IsRelation r → IsRelation s → IsTrue (have_no_common r.heading s.heading)
    → IsTupleOf (heading_union r.heading s.heading) t → IsIn t (product r s) ↔ IsInBoth r s t

-- r MATCHING s: t is in r, and some w agrees with t on the common names
abbrev pub SemijoinByMembership : Type 0
SemijoinByMembership =
    (r s : Relation) (t : Tuple) → IsRelation r → IsRelation s
    → IsIn t (semijoin r s) ↔ (IsIn t r × ((w : Tuple) × IsIn w s × AgreeOn (common_names r s) t w))

-- r NOT MATCHING s: t is in r, and no w agrees with t on the common names
abbrev pub SemidifferenceByMembership : Type 0
SemidifferenceByMembership =
    (r s : Relation) (t : Tuple) → IsRelation r → IsRelation s
    → IsIn t (semidifference r s) ↔ (IsIn t r × ((w : Tuple) → IsIn w s → AgreeOn (common_names r s) t w → ⊥))

-- u and w agree on the common names, and t agrees with each on that one's own names
abbrev pub IsComposed : Relation → Relation → Tuple → Tuple → Tuple → Type 0
IsComposed r s u w t = AgreeOn (common_names r s) u w × AgreeOn (own_names r s) t u × AgreeOn (own_names s r) t w

-- the heading of a composition: the attributes that one of two headings has
abbrev pub composition_heading : Relation → Relation → Heading
composition_heading r s = projection (own_names r s ++ own_names s r) (heading_union r.heading s.heading)

-- r COMPOSE s: some u and w agree on the common names, and t agrees with u and with w on its own names
abbrev pub CompositionByMembership : Type 0
CompositionByMembership =
    (r s : Relation) (t : Tuple) → AreJoinable r s → IsTupleOf (composition_heading r s) t
    → IsIn t (composition r s) ↔ ((u : Tuple) × (w : Tuple) × IsIn u r × IsIn w s × IsComposed r s u w t)
