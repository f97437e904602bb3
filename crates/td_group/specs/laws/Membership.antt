-- The operators by membership: which tuples of the result's heading are in the result (Tutorial D's).
use Rattle.std.specs.Prelude.{◌≡◌, ℕ, IsTrue, false, ◌↔◌, List, ◌∷◌, Some, map, [], Option, None}
use Rattle.std.specs.List.{All, Contains}
use Rattle.std.specs.Ordering.{is_lt}
use Rattle.td_types.specs.model.Headings.{is_closable, projection}
use Rattle.td_tree.specs.model.Names.{IsName}
use Rattle.td_value.specs.model.Agreement.{AgreeOn}
use Rattle.td_value.specs.model.Values.{Val, Tuple, Relation, IsRelation, IsTupleOf, projected_tuple, relation_value, tuple_names, tuple_value, value_at, value_cmp}
use Rattle.td_algebra.specs.laws.Membership.{IsIn}
use Rattle.td_algebra.specs.model.Operators.{common_names}
use Rattle.td_group.specs.model.Aggregates.{greatest_value, least_value}
use Rattle.td_group.specs.model.Closure.{chained_tuple, closure, is_followed_by}
use Rattle.td_group.specs.model.Groups.{groups}
use Rattle.td_group.specs.model.Nesting.{can_nest, can_unnest, grouped_relation, names_without, rest_names, tuples_inside, unnested_relation, wrapped_relation}

-- ---- GROUP, WRAP and what undoes them

-- the relation is the set of the N parts of the tuples of r that agree with t on the rest
abbrev pub IsGroupOf : List (List ℕ) → Relation → Tuple → Relation → Type 0
IsGroupOf names r t g =
    (g.heading ≡ projection names r.heading)
    × ((x : Tuple) → IsIn x g ↔ ((u : Tuple) × IsIn u r × AgreeOn (rest_names names r) t u × (x ≡ projected_tuple names u)))

-- r GROUP ({N} AS X): some u agrees with t on the rest, and X of t is the set of the N parts of all such u
abbrev pub GroupByMembership : Type 0
GroupByMembership =
    (names : List (List ℕ)) (name : List ℕ) (r : Relation) (t : Tuple) → IsRelation r → IsTrue (can_nest names name r.heading)
    → IsTupleOf (grouped_relation names name r).heading t
    → IsIn t (grouped_relation names name r)
    ↔ ((u : Tuple) × (g : Relation) × IsIn u r × AgreeOn (rest_names names r) t u × (value_at name t ≡ Some (relation_value g)) × IsGroupOf names r t g)

-- r WRAP ({N} AS X): some u agrees with t on the rest, and X of t is the tuple of its N part
abbrev pub WrapByMembership : Type 0
WrapByMembership =
    (names : List (List ℕ)) (name : List ℕ) (r : Relation) (t : Tuple) → IsRelation r → IsTrue (can_nest names name r.heading)
    → IsTupleOf (wrapped_relation names name r).heading t
    → IsIn t (wrapped_relation names name r)
    ↔ ((u : Tuple) × IsIn u r × AgreeOn (rest_names names r) t u × (value_at name t ≡ Some (tuple_value (projected_tuple names u))))

-- r UNGROUP (X) and r UNWRAP (X): for some u and some tuple x that X of u has or is, t is x with the rest of u
abbrev pub UnnestByMembership : Type 0
UnnestByMembership =
    (name : List ℕ) (r : Relation) (t : Tuple) → IsRelation r → IsTrue (can_unnest name r.heading) → IsTupleOf (unnested_relation name r).heading t
    → IsIn t (unnested_relation name r)
    ↔ ((u : Tuple) × (x : Tuple) × IsIn u r × Contains (tuples_inside (value_at name u)) x × AgreeOn (names_without name r) t u × AgreeOn (tuple_names x) t x)

-- what is grouped and ungrouped again is what it was, and so is what is wrapped and unwrapped
abbrev pub UngroupUndoesGroup : Type 0
UngroupUndoesGroup =
    (names : List (List ℕ)) (name : List ℕ) (r : Relation) → IsRelation r → IsTrue (can_nest names name r.heading) → IsName name
    → unnested_relation name (grouped_relation names name r) ≡ r

abbrev pub UnwrapUndoesWrap : Type 0
UnwrapUndoesWrap =
    (names : List (List ℕ)) (name : List ℕ) (r : Relation) → IsRelation r → IsTrue (can_nest names name r.heading) → IsName name
    → unnested_relation name (wrapped_relation names name r) ≡ r

-- ---- the groups of SUMMARIZE

-- each tuple of PER stands once, in order, beside the relation of the tuples of r that agree with it on the common names
abbrev pub GroupsByMembership : Type 0
GroupsByMembership =
    (r per : Relation) → IsRelation r → IsRelation per
    → (map (λ (p : Tuple × Relation). p.0) (groups r per) ≡ per.body)
    × ((w : Tuple) (g : Relation) → Contains (groups r per) (w, g)
    → (g.heading ≡ r.heading) × ((u : Tuple) → IsIn u g ↔ (IsIn u r × AgreeOn (common_names per r) w u)))

-- ---- MAX and MIN

-- a member that none exceeds
abbrev pub GreatestIsAMember : Type 0
GreatestIsAMember =
    (v : Val) (vs : List Val)
    → Contains (v ∷ vs) (greatest_value v vs) × ((w : Val) → Contains (v ∷ vs) w → is_lt (value_cmp (greatest_value v vs) w) ≡ false)

-- a member that exceeds none
abbrev pub LeastIsAMember : Type 0
LeastIsAMember =
    (v : Val) (vs : List Val) → Contains (v ∷ vs) (least_value v vs) × ((w : Val) → Contains (v ∷ vs) w → is_lt (value_cmp w (least_value v vs)) ≡ false)

-- ---- TCLOSE

-- the values from which and to which a tuple leads
abbrev pub first_value : Tuple → Option Val
first_value [] = None
first_value (e ∷ es) = Some e.1

abbrev pub second_value : Tuple → Option Val
second_value [] = None
second_value (e ∷ es) = first_value es

-- the tuples are a chain from one value to another: each leads from where the one before it leads to
abbrev pub IsChain : Option Val → List Tuple → Option Val → Type 0
IsChain v [] w = v ≡ w
IsChain v (t ∷ ts) w = (first_value t ≡ v) × IsChain (second_value t) ts w

-- some tuples of the relation, one at least, are a chain from one value to another
abbrev pub AreChained : Relation → Tuple → Type 0
AreChained r t =
    (u : Tuple) × (us : List Tuple) × All (λ w. IsIn w r) (u ∷ us) × IsChain (first_value t) (u ∷ us) (second_value t)

-- TCLOSE r: there is a nonempty list of tuples of r in which each leads from where the one before leads to, the first from where
-- t does, and the last to where t does
abbrev pub ClosureByChains : Type 0
ClosureByChains =
    (r : Relation) (t : Tuple) → IsRelation r → IsTrue (is_closable r.heading) → IsTupleOf r.heading t → IsIn t (closure r) ↔ AreChained r t

-- a relation that has, of two tuples of which one leads to where the other leads from, the one that they chain to
abbrev pub IsTransitive : Relation → Type 0
IsTransitive r = (t u : Tuple) → IsIn t r → IsIn u r → IsTrue (is_followed_by t u) → IsIn (chained_tuple t u) r

-- the closure is the least transitive relation that includes its operand
abbrev pub ClosureIsLeast : Type 0
ClosureIsLeast =
    (r : Relation) → IsRelation r → IsTrue (is_closable r.heading)
    → IsTransitive (closure r) × ((t : Tuple) → IsIn t r → IsIn t (closure r))
    × ((s : Relation) → IsTransitive s → ((t : Tuple) → IsIn t r → IsIn t s) → (t : Tuple) → IsIn t (closure r) → IsIn t s)

-- the closure of a closure is itself
abbrev pub ClosureIsIdempotent : Type 0
ClosureIsIdempotent = (r : Relation) → IsRelation r → IsTrue (is_closable r.heading) → closure (closure r) ≡ closure r
