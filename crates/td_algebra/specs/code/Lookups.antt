-- The rows of a list by their values at places (this project's own).
use Rattle.std.specs.Prelude.{◌≡◌, ℕ, ◌+◌, ◌<◌, Bool, true, false, not, List, [], ◌∷◌, Option, None, Some, drop, filter, get_or, if◌then◌else◌, length, map}
use Rattle.std.specs.Cmp.Lexicographic.{pointwise}
use Rattle.std.specs.HashMap.{HashMap, get}
use Rattle.std.specs.List.{All, list_any, slice_get}
use Rattle.std.specs.Ordering.{eq_by_cmp}
use Rattle.td_types.specs.model.Types.{Heading}
use Rattle.td_value.specs.model.Values.{Val, boolean, IsTupleOf, Tuple, projected_tuple, value_cmp}
use Rattle.td_value.specs.code.Views.{values_of}

-- ---- values at places

-- whether two lists have the same values
abbrev pub are_same : List Val → List Val → Bool
are_same = pointwise (eq_by_cmp value_cmp)

-- each of the places has a value
abbrev pub AreWithin : List ℕ → List Val → Type 0
AreWithin places vs = All (λ place. place < length vs) places

-- the values at the places
abbrev pub values_at : List ℕ → List Val → List Val
values_at places vs = map (λ place. get_or vs place (boolean false)) places

-- the values of a tuple at the places
abbrev pub part_of : List ℕ → Tuple → List Val
part_of places t = values_at places (values_of t)

-- whether these are the values of the tuple at the places
abbrev pub has_part : List ℕ → List Val → Tuple → Bool
has_part places vs t = are_same vs (part_of places t)

-- ---- values on names

-- the values of a tuple on the names, in name order
abbrev pub values_on : List (List ℕ) → Tuple → List Val
values_on names t = values_of (projected_tuple names t)

-- the values stand in the tuple at the places
abbrev pub StandAt : List ℕ → List Val → Tuple → Type 0
StandAt places vs t = map (slice_get (values_of t)) places ≡ map Some vs

-- at the places stand the values on the names, in each tuple of the heading
abbrev pub ArePlacesOf : List (List ℕ) → Heading → List ℕ → Type 0
ArePlacesOf names heading places = (t : Tuple) → IsTupleOf heading t → StandAt places (values_on names t) t

-- ---- look-ups

-- the places of a look-up, and its rows
abbrev pub RowsByParts : Type 0
RowsByParts = List ℕ × List Tuple

-- the rows whose values at the look-up's places are those of the tuple at the other places
abbrev pub partners_in : RowsByParts → List ℕ → Tuple → List Tuple
partners_in l places t = filter (has_part l.0 (part_of places t)) l.1

-- whether there is such a row
abbrev pub has_partner_in : RowsByParts → List ℕ → Tuple → Bool
has_partner_in l places t = list_any (has_part l.0 (part_of places t)) l.1

-- the place of the first of the rows that passes the test, counted from a start
abbrev pub first_place : (Tuple → Bool) → ℕ → List Tuple → Option ℕ
first_place p start [] = None
first_place p start (t ∷ ts) = if p t then Some start else first_place p (start + 1) ts

-- for each of the rows the place of the next one with its values, counted from a start
abbrev pub next_places : List ℕ → ℕ → List Tuple → List (Option ℕ)
next_places places start [] = []
next_places places start (t ∷ ts) =
    first_place (has_part places (part_of places t)) (start + 1) ts ∷ next_places places (start + 1) ts

-- the table has the place of the first of the rows with given values, counted from a start
abbrev pub HasFirsts : {S : Type 0} → List ℕ → ℕ → List Tuple → HashMap (List Val) ℕ S → Type 0
HasFirsts places start ts table =
    (vs : List Val) → get are_same table vs ≡ first_place (has_part places vs) start ts

-- the first of the rows, and those of the others that have its values at the places
abbrev pub like_first : List ℕ → List Tuple → List Tuple
like_first places [] = []
like_first places (t ∷ ts) = t ∷ filter (has_part places (part_of places t)) ts

-- the row at a place of the look-up, and those after it that have its values
abbrev pub like_row_at : RowsByParts → Option ℕ → List Tuple
like_row_at l None = []
like_row_at l (Some place) = like_first l.0 (drop place l.1)

-- the answer of a test that is wanted, or its contrary
abbrev pub wanted_answer : Bool → Bool → Bool
wanted_answer true found = found
wanted_answer false found = not found
