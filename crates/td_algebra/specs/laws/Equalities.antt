-- Equalities of the relational operators (Tutorial D's algebra): each side may be computed in place of the other.
use Rattle.std.specs.Prelude.{◌≡◌, Bool, IsTrue}
use Rattle.td_types.specs.model.Headings.{have_no_common}
use Rattle.td_value.specs.model.Values.{Tuple, Relation, IsRelation, projected_tuple}
use Rattle.td_algebra.specs.laws.Membership.{AreJoinable}
use Rattle.td_algebra.specs.model.Operators.{difference, intersection, join, product, projected_relation, relation_names, restriction, semidifference, semijoin, union}

-- two relations of one heading
abbrev pub AreAlike : Relation → Relation → Type 0
AreAlike r s = IsRelation r × IsRelation s × (r.heading ≡ s.heading)

-- ---- union and intersection

abbrev pub UnionIsCommutative : Type 0
UnionIsCommutative = (r s : Relation) → AreAlike r s → union r s ≡ union s r

abbrev pub UnionIsAssociative : Type 0
UnionIsAssociative =
    (r s q : Relation) → AreAlike r s → AreAlike s q → union (union r s) q ≡ union r (union s q)

abbrev pub UnionIsIdempotent : Type 0
UnionIsIdempotent = (r : Relation) → IsRelation r → union r r ≡ r

abbrev pub IntersectionIsCommutative : Type 0
IntersectionIsCommutative = (r s : Relation) → AreAlike r s → intersection r s ≡ intersection s r

abbrev pub IntersectionIsAssociative : Type 0
IntersectionIsAssociative =
    (r s q : Relation) → AreAlike r s → AreAlike s q
    → intersection (intersection r s) q ≡ intersection r (intersection s q)

abbrev pub IntersectionIsIdempotent : Type 0
IntersectionIsIdempotent = (r : Relation) → IsRelation r → intersection r r ≡ r

-- ---- joins

abbrev pub JoinIsCommutative : Type 0
JoinIsCommutative = (r s : Relation) → AreJoinable r s → join r s ≡ join s r

abbrev pub JoinIsAssociative : Type 0
JoinIsAssociative =
    (r s q : Relation) → AreJoinable r s → AreJoinable r q → AreJoinable s q
    → join (join r s) q ≡ join r (join s q)

-- TIMES is JOIN where no attribute is common
abbrev pub ProductIsJoin : Type 0
ProductIsJoin = (r s : Relation) → IsTrue (have_no_common r.heading s.heading) → product r s ≡ join r s

-- INTERSECT is JOIN of relations of one heading
abbrev pub IntersectionIsJoin : Type 0
IntersectionIsJoin = (r s : Relation) → AreAlike r s → intersection r s ≡ join r s

-- MATCHING is JOIN projected on the first one's attributes
abbrev pub SemijoinIsProjectedJoin : Type 0
SemijoinIsProjectedJoin =
    (r s : Relation) → AreJoinable r s → semijoin r s ≡ projected_relation (relation_names r) (join r s)

-- MINUS is NOT MATCHING of relations of one heading
abbrev pub DifferenceIsSemidifference : Type 0
DifferenceIsSemidifference = (r s : Relation) → AreAlike r s → difference r s ≡ semidifference r s

-- ---- a restriction of a result is the result of restrictions

abbrev pub RestrictionOfUnion : Type 0
RestrictionOfUnion =
    (p : Tuple → Bool) (r s : Relation) → AreAlike r s
    → restriction p (union r s) ≡ union (restriction p r) (restriction p s)

abbrev pub RestrictionOfIntersection : Type 0
RestrictionOfIntersection =
    (p : Tuple → Bool) (r s : Relation)
    → restriction p (intersection r s) ≡ intersection (restriction p r) s

abbrev pub RestrictionOfDifference : Type 0
RestrictionOfDifference =
    (p : Tuple → Bool) (r s : Relation) → restriction p (difference r s) ≡ difference (restriction p r) s

-- whether a tuple passes depends on its part on r's names alone
abbrev pub IsAskedOf : Relation → (Tuple → Bool) → Type 0
IsAskedOf r p = (t : Tuple) → p t ≡ p (projected_tuple (relation_names r) t)

-- a restriction that asks of the first operand's attributes alone passes to it
abbrev pub RestrictionOfJoin : Type 0
RestrictionOfJoin =
    (p : Tuple → Bool) (r s : Relation) → AreJoinable r s → IsAskedOf r p
    → restriction p (join r s) ≡ join (restriction p r) s
