-- Two tuples agree on names where they give each of them the same value (Tutorial D's "agree on").
use Rattle.std.specs.Prelude.{◌≡◌, ℕ, Bool, List, IsTrue}
use Rattle.std.specs.Ordering.{eq_by_cmp}
use Rattle.td_types.specs.model.Headings.{has_name}
use Rattle.td_value.specs.model.Values.{Tuple, projected_tuple, tuple_cmp, value_at}

-- whether two tuples agree on the names: whether their projections are one tuple
abbrev pub agree_on : List (List ℕ) → Tuple → Tuple → Bool
agree_on names s t = eq_by_cmp tuple_cmp (projected_tuple names s) (projected_tuple names t)

-- each of the names has one value in both, or none
abbrev pub AgreeOn : List (List ℕ) → Tuple → Tuple → Type 0
AgreeOn names s t = (name : List ℕ) → IsTrue (has_name name names) → value_at name s ≡ value_at name t
