-- What tuples are as finite maps from names to values, and what agreement is: laws (Tutorial D's).
use Rattle.std.specs.Prelude.{◌≡◌, ℕ, List, None, if◌then◌else◌, IsTrue, ◌↔◌}
use Rattle.td_types.specs.model.Headings.{has_name}
use Rattle.td_value.specs.model.Values.{Tuple, IsTuple, projected_tuple, value_at}
use Rattle.td_value.specs.model.Agreement.{AgreeOn, agree_on}

-- tuples are the values that they give to names: two that give each name the same value are one
abbrev pub TuplesAreTheirValues : Type 0
TuplesAreTheirValues =
    (s t : Tuple) → IsTuple s → IsTuple t → ((name : List ℕ) → value_at name s ≡ value_at name t) → s ≡ t

-- the projection of a tuple gives the names that it is on their values, and no other a value
abbrev pub ProjectionsKeepValues : Type 0
ProjectionsKeepValues =
    (names : List (List ℕ)) (t : Tuple) (name : List ℕ)
    → value_at name (projected_tuple names t) ≡ (if has_name name names then value_at name t else None)

-- the test of agreement is true exactly where both tuples give each name one value
abbrev pub AgreementIsOfValues : Type 0
AgreementIsOfValues =
    (names : List (List ℕ)) (s t : Tuple) → IsTuple s → IsTuple t
    → IsTrue (agree_on names s t) ↔ AgreeOn names s t
