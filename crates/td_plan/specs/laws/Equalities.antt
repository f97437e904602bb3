-- Equalities of restrictions: each side may be computed in place of the other.
use Rattle.std.specs.Prelude.{◌≡◌, ℕ, Bool, List, Some, IsTrue, ◌↔◌}
use Rattle.std.specs.List.{All, list_all}
use Rattle.std.specs.Option.{option_cmp}
use Rattle.std.specs.Ordering.{eq_by_cmp}
use Rattle.td_types.specs.model.Headings.{have_no_common, projection}
use Rattle.td_value.specs.model.Values.{Val, Tuple, Relation, IsRelation, IsTuple, heading_of, projected_tuple, value_at, value_cmp}
use Rattle.td_algebra.specs.laws.Membership.{AreJoinable, IsIn}
use Rattle.td_algebra.specs.model.Operators.{join, product, relation_names, restriction}
use Rattle.td_body.specs.model.Bodies.{agreeing}

-- ---- a restriction of a join restricts an operand

-- what p gives for a tuple of the relation depends only on the tuple's part on the names
abbrev pub AsksOnlyOf : {A : Type 0} → List (List ℕ) → Relation → (Tuple → A) → Type 0
AsksOnlyOf names r p = (t : Tuple) → IsIn t r → p t ≡ p (projected_tuple names t)

-- what asks of the first operand's attributes alone restricts the first operand
abbrev pub RestrictionOfJoinOnLeft : Type 0
RestrictionOfJoinOnLeft =
    (p : Tuple → Bool) (r s : Relation) → AreJoinable r s → AsksOnlyOf (relation_names r) (join r s) p
    → restriction p (join r s) ≡ join (restriction p r) s

-- what asks of the second operand's attributes alone restricts the second operand
abbrev pub RestrictionOfJoinOnRight : Type 0
RestrictionOfJoinOnRight =
    (p : Tuple → Bool) (r s : Relation) → AreJoinable r s → AsksOnlyOf (relation_names s) (join r s) p
    → restriction p (join r s) ≡ join r (restriction p s)

-- two relations that have no common attribute
abbrev pub HaveNoCommon : Relation → Relation → Type 0
HaveNoCommon r s = IsRelation r × IsRelation s × IsTrue (have_no_common r.heading s.heading)

abbrev pub RestrictionOfProductOnLeft : Type 0
RestrictionOfProductOnLeft =
    (p : Tuple → Bool) (r s : Relation) → HaveNoCommon r s → AsksOnlyOf (relation_names r) (product r s) p
    → restriction p (product r s) ≡ product (restriction p r) s

abbrev pub RestrictionOfProductOnRight : Type 0
RestrictionOfProductOnRight =
    (p : Tuple → Bool) (r s : Relation) → HaveNoCommon r s → AsksOnlyOf (relation_names s) (product r s) p
    → restriction p (product r s) ≡ product r (restriction p s)

-- ---- look-up by key

-- whether a tuple has the value at the name
abbrev pub is_at : List ℕ → Val → Tuple → Bool
is_at name v t = eq_by_cmp (option_cmp value_cmp) (value_at name t) (Some v)

-- whether a tuple has each of the part's values at its name
abbrev pub has_values : Tuple → Tuple → Bool
has_values part t = list_all (λ e. is_at e.0 e.1 t) part

-- the tuple has each of the part's values at its name
abbrev pub HasValues : Tuple → Tuple → Type 0
HasValues part t = All (λ (e : List ℕ × Val). value_at e.0 t ≡ Some e.1) part

-- `has_values` is true exactly where the tuple has each of the part's values
abbrev pub ValuesAreTold : Type 0
ValuesAreTold = (part t : Tuple) → IsTrue (has_values part t) ↔ HasValues part t

-- a part that gives each attribute of the key a value of its type
abbrev pub IsPartOn : List (List ℕ) → Relation → Tuple → Type 0
IsPartOn key r part = IsTuple part × (heading_of part ≡ projection key r.heading)

-- a restriction that passes no tuple without these values is one of what the look-up finds
abbrev pub RestrictionAfterLookUp : Type 0
RestrictionAfterLookUp =
    (key : List (List ℕ)) (part : Tuple) (p : Tuple → Bool) (r : Relation) → IsRelation r → IsPartOn key r part
    → ((t : Tuple) → IsIn t r → IsTrue (p t) → HasValues part t)
    → restriction p r ≡ restriction p (agreeing key part r)
