-- Equalities of the values of restrictions by conditions that have a truth value in every tuple that they are asked of: each
-- side may be computed in place of the other.
use Rattle.std.specs.Prelude.{◌≡◌, ℕ, Bool, true, List, ⊤}
use Rattle.td_tree.specs.declared.operator.Comparison.TheVariants as comparisons
use Rattle.td_tree.specs.declared.operator.Operator.{Operator}
use Rattle.td_tree.specs.declared.operator.Operator.TheVariants as operators
use Rattle.td_tree.specs.model.Outcomes.{Outcome, Valued, Refused, with_both, with_value}
use Rattle.td_types.specs.model.Types.{Heading, attribute_names}
use Rattle.td_value.specs.model.Values.{Val, Tuple, Relation, IsRelation, relation_value}
use Rattle.td_algebra.specs.laws.Membership.{IsIn}
use Rattle.td_algebra.specs.model.Operators.{restriction}
use Rattle.td_body.specs.model.Bodies.{agreeing}
use Rattle.td_eval.specs.model.OperatorValues.{comparison_value, is_true, of_relation, of_truth, on_relation, operator_value, restricted_value}
use Rattle.td_plan.specs.laws.Equalities.{AsksOnlyOf, HasValues, IsPartOn}

-- ---- conditions and operands

-- the condition has a truth value in each tuple of the relation
abbrev pub IsTotalIn : (Tuple → Outcome Val) → Relation → Type 0
IsTotalIn p r = (t : Tuple) → IsIn t r → (b : Bool) × (p t ≡ of_truth b)

-- an operand gives causes, or a relation of which that holds
abbrev pub Gives : (Relation → Type 0) → Outcome Val → Type 0
Gives P (Valued v) = (r : Relation) × (v ≡ relation_value r) × P r
Gives P (Refused cs) = ⊤

-- a relation in whose tuples the condition has a truth value
abbrev pub IsAnsweredBy : (Tuple → Outcome Val) → Relation → Type 0
IsAnsweredBy p r = IsRelation r × IsTotalIn p r

-- what WHERE gives of what its operand gives
abbrev pub where_value : (Tuple → Outcome Val) → Outcome Val → Outcome Val
where_value p o = with_value o (λ v. on_relation v (restricted_value p))

-- what an operator gives of what its operands give
abbrev pub operated_outcome : Operator → Outcome Val → Outcome Val → Outcome Val
operated_outcome op a b = with_both a b (operator_value op)

-- a condition that has a truth value in each tuple restricts by these truth values
abbrev pub TotalConditionsRestrict : Type 0
TotalConditionsRestrict =
    (p : Tuple → Outcome Val) (r : Relation) → IsTotalIn p r
    → restricted_value p r ≡ of_relation (restriction (λ t. is_true (p t)) r)

-- ---- operands of one heading

-- WHERE of a union restricts both operands
abbrev pub WhereOfUnion : Type 0
WhereOfUnion =
    (p : Tuple → Outcome Val) (a b : Outcome Val) → Gives (IsAnsweredBy p) a → Gives (IsAnsweredBy p) b
    → where_value p (operated_outcome operators.Union a b) ≡ operated_outcome operators.Union (where_value p a) (where_value p b)

-- of an intersection, the first
abbrev pub WhereOfIntersectOnLeft : Type 0
WhereOfIntersectOnLeft =
    (p : Tuple → Outcome Val) (a b : Outcome Val) → Gives (IsTotalIn p) a → Gives IsRelation b
    → where_value p (operated_outcome operators.Intersect a b) ≡ operated_outcome operators.Intersect (where_value p a) b

-- of a difference, the first
abbrev pub WhereOfMinus : Type 0
WhereOfMinus =
    (p : Tuple → Outcome Val) (a b : Outcome Val) → Gives (IsTotalIn p) a → Gives IsRelation b
    → where_value p (operated_outcome operators.Minus a b) ≡ operated_outcome operators.Minus (where_value p a) b

-- ---- joins

-- a relation of the heading
abbrev pub HasHeading : Heading → Relation → Type 0
HasHeading h r = IsRelation r × (r.heading ≡ h)

-- one in whose tuples the condition has a truth value
abbrev pub IsHeadedAndAnswered : Heading → (Tuple → Outcome Val) → Relation → Type 0
IsHeadedAndAnswered h p r = HasHeading h r × IsTotalIn p r

-- what p gives for a tuple of the relation depends on its part on the heading's names alone
abbrev pub AsksOnlyIn : Heading → Outcome Val → (Tuple → Outcome Val) → Type 0
AsksOnlyIn h o p = (q : Relation) → o ≡ of_relation q → AsksOnlyOf (attribute_names h) q p

-- WHERE of a join restricts the operand that has what the condition asks
abbrev pub WhereOfJoinOnLeft : Type 0
WhereOfJoinOnLeft =
    (p : Tuple → Outcome Val) (h : Heading) (a b : Outcome Val) → Gives (IsHeadedAndAnswered h p) a → Gives IsRelation b
    → AsksOnlyIn h (operated_outcome operators.Join a b) p
    → where_value p (operated_outcome operators.Join a b) ≡ operated_outcome operators.Join (where_value p a) b

abbrev pub WhereOfJoinOnRight : Type 0
WhereOfJoinOnRight =
    (p : Tuple → Outcome Val) (h : Heading) (a b : Outcome Val) → Gives IsRelation a → Gives (IsHeadedAndAnswered h p) b
    → AsksOnlyIn h (operated_outcome operators.Join a b) p
    → where_value p (operated_outcome operators.Join a b) ≡ operated_outcome operators.Join a (where_value p b)

abbrev pub WhereOfTimesOnLeft : Type 0
WhereOfTimesOnLeft =
    (p : Tuple → Outcome Val) (h : Heading) (a b : Outcome Val) → Gives (IsHeadedAndAnswered h p) a → Gives IsRelation b
    → AsksOnlyIn h (operated_outcome operators.Times a b) p
    → where_value p (operated_outcome operators.Times a b) ≡ operated_outcome operators.Times (where_value p a) b

abbrev pub WhereOfTimesOnRight : Type 0
WhereOfTimesOnRight =
    (p : Tuple → Outcome Val) (h : Heading) (a b : Outcome Val) → Gives IsRelation a → Gives (IsHeadedAndAnswered h p) b
    → AsksOnlyIn h (operated_outcome operators.Times a b) p
    → where_value p (operated_outcome operators.Times a b) ≡ operated_outcome operators.Times a (where_value p b)

-- ---- look-up by key

-- two values whose comparison is TRUE are one
abbrev pub EqualityIsOfOneValue : Type 0
EqualityIsOfOneValue = (v u : Val) → comparison_value comparisons.Equal v u ≡ of_truth true → v ≡ u

-- where AND is TRUE, both its operands are
abbrev pub AndIsOfBoth : Type 0
AndIsOfBoth =
    (a b : Outcome Val) → operated_outcome operators.And a b ≡ of_truth true → (a ≡ of_truth true) × (b ≡ of_truth true)

-- by a condition that is TRUE in no tuple without these values, it is WHERE of what the look-up finds
abbrev pub WhereAfterLookUp : Type 0
WhereAfterLookUp =
    (key : List (List ℕ)) (part : Tuple) (p : Tuple → Outcome Val) (r : Relation) → IsAnsweredBy p r → IsPartOn key r part
    → ((t : Tuple) → IsIn t r → p t ≡ of_truth true → HasValues part t)
    → where_value p (of_relation r) ≡ where_value p (of_relation (agreeing key part r))
