-- The values to which tuples of two attributes lead, by one step or by several (this project's own).
use Rattle.std.specs.Prelude.{◌≡◌, ℕ, List, [], ◌∷◌, ◌++◌, Option, None, Some, Vec, if◌then◌else◌, ◌↔◌}
use Rattle.std.specs.Borrow.{Bor}
use Rattle.std.specs.HashMap.{HashMap, get}
use Rattle.std.specs.HashSet.{HashSet, contains}
use Rattle.std.specs.List.{Contains, flat_map}
use Rattle.std.specs.Ordering.{eq_by_cmp}
use Rattle.td_value.specs.model.Sets.{has}
use Rattle.td_value.specs.model.Values.{Val, Tuple, value_cmp}
use Rattle.td_value.specs.code.Views.{tuple_view, values_of}
use Rattle.td_group.specs.model.Groups.{items_there}

-- two values, where there are two
abbrev pub two_of : List Val → Option (Val × Val)
two_of (v ∷ w ∷ []) = Some (v, w)
two_of vs = None

-- the values from which and to which a tuple of two attributes leads
abbrev pub ends_of : Tuple → Option (Val × Val)
ends_of t = two_of (values_of t)

-- the tuple of two names that leads from a value to another
abbrev pub pair_of : List (List ℕ) → Val → Val → Tuple
pair_of names v w = tuple_view names (v ∷ w ∷ [])

-- the other end of what leads from a value
abbrev pub led_to : Val → Option (Val × Val) → List Val
led_to v None = []
led_to v (Some e) = if eq_by_cmp value_cmp v e.0 then e.1 ∷ [] else []

-- the values to which the tuples lead from a value, in their order
abbrev pub successors : List Tuple → Val → List Val
successors ts v = flat_map (λ t. led_to v (ends_of t)) ts

-- ---- a table of successors

-- the values that stand at a key
abbrev pub successors_at : {A S : Type 0} → HashMap Val (Vec (Bor Val) A) S → Val → List Val
successors_at m v = items_there (get (eq_by_cmp value_cmp) m v)

-- at each key stand its successors
abbrev pub AreSuccessors : {A S : Type 0} → List Tuple → HashMap Val (Vec (Bor Val) A) S → Type 0
AreSuccessors ts m = (v : Val) → successors_at m v ≡ successors ts v

-- ---- values that are reached

-- one leads to another through values, each a successor of the one before
abbrev pub Leads : (Val → List Val) → Val → List Val → Val → Type 0
Leads next v [] w = Contains (next v) w
Leads next v (u ∷ us) w = Contains (next v) u × Leads next u us w

-- the values are those to which one leads
abbrev pub AreReached : (Val → List Val) → Val → List Val → Type 0
AreReached next v found = (w : Val) → Contains found w ↔ ((us : List Val) × Leads next v us w)

-- a list of values with one more, unless it is there
abbrev pub with_value_added : List Val → Val → List Val
with_value_added found v = if has value_cmp v found then found else found ++ v ∷ []

-- a list of values with several more, each unless it is there
abbrev pub all_added : List Val → List Val → List Val
all_added found [] = found
all_added found (v ∷ vs) = all_added (with_value_added found v) vs

-- the values seen are those of the list
abbrev pub AreSeen : {S : Type 0} → HashSet Val S → List Val → Type 0
AreSeen seen found = (q : Val) → contains (eq_by_cmp value_cmp) seen q ≡ has value_cmp q found

-- the tuples of the names that lead from the values to those that these lead to
abbrev pub ArePairsFrom : (Val → List Val) → List (List ℕ) → List Val → List Tuple → Type 0
ArePairsFrom next names starts pairs =
    (t : Tuple) → Contains pairs t
    ↔ ((v : Val) × (w : Val) × (us : List Val) × Contains starts v × Leads next v us w × (t ≡ pair_of names v w))

-- the value from which a pair leads, where there is one
abbrev pub start_of : Option (Val × Val) → List Val
start_of None = []
start_of (Some e) = e.0 ∷ []

-- the values from which the tuples lead
abbrev pub starts_in : List Tuple → List Val
starts_in ts = flat_map (λ t. start_of (ends_of t)) ts

-- two lists of the same values
abbrev pub HaveSameValues : List Val → List Val → Type 0
HaveSameValues vs ws = (v : Val) → Contains vs v ↔ Contains ws v
