-- A tuple's part on a key, as the values at the places of the key's names (the code's way to it).
use Rattle.std.specs.Prelude.{ℕ, ◌+◌, Bool, true, not, ◌&&◌, List, [], ◌∷◌, Option, Some, map, if◌then◌else◌}
use Rattle.std.specs.List.{list_any, slice_get}
use Rattle.std.specs.Option.{option_cmp}
use Rattle.std.specs.Ordering.{is_eq}
use Rattle.std.specs.declared.cmp.Ordering.{Ordering}
use Rattle.std.specs.Cmp.Lexicographic.{slice_cmp}
use Rattle.td_types.specs.model.Headings.{has_name}
use Rattle.td_value.specs.model.Values.{Tuple, Val, value_cmp}
use Rattle.td_value.specs.code.Views.{values_of}

-- the places, counted from i, of those of the names that are in the key
abbrev pub places_from : ℕ → List (List ℕ) → List (List ℕ) → List ℕ
places_from i key [] = []
places_from i key (n ∷ ns) = if has_name n key then i ∷ places_from (i + 1) key ns else places_from (i + 1) key ns

-- a tuple's values at places
abbrev pub tuple_values_at : List ℕ → Tuple → List (Option Val)
tuple_values_at places t = map (slice_get (values_of t)) places

-- the order of tuples by their values at places
abbrev pub by_places : List ℕ → Tuple → Tuple → Ordering
by_places places s t = slice_cmp (option_cmp value_cmp) (tuple_values_at places s) (tuple_values_at places t)

-- how a tuple's values at places stand to other values
abbrev pub values_cmp : List ℕ → Tuple → List Val → Ordering
values_cmp places t vs = slice_cmp (option_cmp value_cmp) (tuple_values_at places t) (map Some vs)

-- whether no two of the tuples tie at the places
abbrev pub apart_at : List ℕ → List Tuple → Bool
apart_at places [] = true
apart_at places (t ∷ ts) = not (list_any (λ u. is_eq (by_places places t u)) ts) && apart_at places ts
