-- Where a tuple stands in a list of tuples, and where it is missing there; and the values at places.
use Rattle.std.specs.Prelude.{◌≡◌, ◌<◌, ◌≤◌, ℕ, List, false, get_or, length, map, not, true}
use Rattle.std.specs.List.{filter, insert, remove}
use Rattle.std.specs.Ordering.{eq_by_cmp}
use Rattle.td_value.specs.model.Sets.{has, put_in}
use Rattle.td_value.specs.model.Values.{Tuple, Val, boolean, tuple_cmp}

-- the tuple is a member and stands at that place: removing the item there removes it
abbrev pub IsPlaceOf : Tuple → List Tuple → ℕ → Type 0
IsPlaceOf t ts place =
    (place < length ts) × (has tuple_cmp t ts ≡ true)
    × (remove ts place ≡ filter (λ u. not (eq_by_cmp tuple_cmp t u)) ts)

-- the tuple is no member, and belongs at that place: inserting it there makes it one
abbrev pub IsPlaceFor : Tuple → List Tuple → ℕ → Type 0
IsPlaceFor t ts place =
    (place ≤ length ts) × (has tuple_cmp t ts ≡ false) × (insert ts place t ≡ put_in tuple_cmp t ts)

-- the values at the places
abbrev pub values_at : List ℕ → List Val → List Val
values_at places vs = map (λ place. get_or vs place (boolean false)) places
