-- Worked examples: what the definitions compute of small relations.
use Rattle.std.proofs.Common.{◌≡◌, refl, ℕ, pos, List, [], ◌∷◌}
use Rattle.td_group.specs.model.Aggregates.{greatest_value, least_value, sum_of}
use Rattle.td_group.specs.model.Closure.{closure}
use Rattle.td_group.specs.model.Nesting.{grouped_relation, unnested_relation, wrapped_relation}
use Rattle.td_types.specs.model.Types.{Heading, pack}
use Rattle.td_types.specs.model.Types as types
use Rattle.td_value.specs.model.Values.{Val, integer, Tuple, Relation, relation_of, relation_value, tuple_value}

-- the names A, B and X
abbrev a : List ℕ
a = 65 ∷ []

abbrev b : List ℕ
b = 66 ∷ []

abbrev x : List ℕ
x = 88 ∷ []

abbrev number : ℕ → Val
number n = integer (pos n)

-- a tuple of two numbers, and a relation of such tuples
abbrev two : ℕ → ℕ → Tuple
two m n = (a, number m) ∷ (b, number n) ∷ []

abbrev both : List Tuple → Relation
both = relation_of ((a, types.integer) ∷ (b, types.integer) ∷ [])

-- ---- GROUP and UNGROUP

abbrev b_alone : Heading
b_alone = (b, types.integer) ∷ []

-- the B of each A as one set
grouped : Relation
grouped =
    relation_of ((a, types.integer) ∷ (x, types.relation (pack b_alone)) ∷ [])
    (((a, number 1) ∷ (x, relation_value (relation_of b_alone (((b, number 2) ∷ []) ∷ ((b, number 3) ∷ []) ∷ []))) ∷ []) ∷ [])

groups_by_the_rest : grouped_relation (b ∷ []) x (both (two 1 2 ∷ two 1 3 ∷ [])) ≡ grouped
unfolding grouped
groups_by_the_rest = refl

ungroups : unnested_relation x grouped ≡ both (two 1 2 ∷ two 1 3 ∷ [])
unfolding grouped
ungroups = refl

-- ---- WRAP and UNWRAP

-- the B of each tuple as a tuple
wrapped : Relation
wrapped =
    relation_of ((a, types.integer) ∷ (x, types.tuple (pack b_alone)) ∷ [])
    (((a, number 1) ∷ (x, tuple_value ((b, number 2) ∷ [])) ∷ []) ∷ ((a, number 1) ∷ (x, tuple_value ((b, number 3) ∷ [])) ∷ []) ∷ [])

wraps_each : wrapped_relation (b ∷ []) x (both (two 1 2 ∷ two 1 3 ∷ [])) ≡ wrapped
unfolding wrapped
wraps_each = refl

unwraps : unnested_relation x wrapped ≡ both (two 1 2 ∷ two 1 3 ∷ [])
unfolding wrapped
unwraps = refl

-- ---- TCLOSE

-- one tuple gains nothing; three in a row give six; two that turn give each its own end
closes_one : closure (both (two 1 2 ∷ [])) ≡ both (two 1 2 ∷ [])
closes_one = refl

closes_a_row : closure (both (two 1 2 ∷ two 2 3 ∷ two 3 4 ∷ [])) ≡ both (two 1 2 ∷ two 1 3 ∷ two 1 4 ∷ two 2 3 ∷ two 2 4 ∷ two 3 4 ∷ [])
closes_a_row = refl

closes_a_circle : closure (both (two 1 2 ∷ two 2 1 ∷ [])) ≡ both (two 1 1 ∷ two 1 2 ∷ two 2 1 ∷ two 2 2 ∷ [])
closes_a_circle = refl

-- ---- aggregates

-- equal values count each
sums : sum_of (number 5 ∷ number 5 ∷ []) ≡ pos 10
sums = refl

greatest : greatest_value (number 2) (number 7 ∷ number 3 ∷ []) ≡ number 7
greatest = refl

least : least_value (number 4) (number 7 ∷ number 3 ∷ []) ≡ number 3
least = refl
