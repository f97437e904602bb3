-- Two ascending lists of tuples side by side (this project's own).
use Rattle.std.specs.Prelude.{◌≡◌, Bool, true, false, not, List, [], ◌∷◌, ◌++◌, if◌then◌else◌, IsTrue}
use Rattle.std.specs.Ordering.{eq_by_cmp, is_lt}
use Rattle.td_value.specs.model.Sets.{has}
use Rattle.td_value.specs.model.Values.{Tuple, tuple_cmp}

-- the first tuples, as long as they are below a tuple
abbrev pub below : Tuple → List Tuple → List Tuple
below t [] = []
below t (u ∷ us) = if is_lt (tuple_cmp u t) then u ∷ below t us else []

-- the tuples after them
abbrev pub not_below : Tuple → List Tuple → List Tuple
not_below t [] = []
not_below t (u ∷ us) = if is_lt (tuple_cmp u t) then not_below t us else u ∷ us

-- whether the first is the tuple
abbrev pub begins_with : Tuple → List Tuple → Bool
begins_with t [] = false
begins_with t (u ∷ us) = eq_by_cmp tuple_cmp t u

-- the tuples without the first where it is the tuple
abbrev pub without_first : Tuple → List Tuple → List Tuple
without_first t [] = []
without_first t (u ∷ us) = if eq_by_cmp tuple_cmp t u then us else u ∷ us

-- the tuples of two ascending lists, ascending: each tuple of the first stands after those of the second that are below it
abbrev pub merged_tuples : List Tuple → List Tuple → List Tuple
merged_tuples [] us = us
merged_tuples (t ∷ ts) us = below t us ++ t ∷ merged_tuples ts (without_first t (not_below t us))

-- whether a tuple is in a list, or whether it is not
abbrev pub is_wanted : Bool → List Tuple → Tuple → Bool
is_wanted true us t = has tuple_cmp t us
is_wanted false us t = not (has tuple_cmp t us)

-- what is left of the second list has what is left of the first exactly where the whole has it
abbrev pub IsAbreast : List Tuple → List Tuple → List Tuple → Type 0
IsAbreast ts rest us = (t : Tuple) → IsTrue (has tuple_cmp t ts) → has tuple_cmp t rest ≡ has tuple_cmp t us
