-- The groups of SUMMARIZE (Tutorial D's PER), and the parts of GROUP: tuples, each with the tuples that agree with it.
use Rattle.std.specs.Prelude.{ℕ, List, [], Option, None, Some, Vec, map}
use Rattle.std.specs.Borrow.{Bor}
use Rattle.td_algebra.specs.model.Operators.{common_names, restriction}
use Rattle.td_value.specs.model.Agreement.{agree_on}
use Rattle.td_value.specs.model.Values.{Tuple, Relation}

-- each of the tuples with the relation of the tuples of r that agree with it on the names, also where there is none
abbrev pub groups_on : List (List ℕ) → Relation → List Tuple → List (Tuple × Relation)
groups_on names r = map (λ w. (w, restriction (agree_on names w) r))

-- each tuple of per with the relation of the tuples of r that agree with it on the common names
abbrev pub groups : Relation → Relation → List (Tuple × Relation)
groups r per = groups_on (common_names per r) r per.body

-- the items of a list that is there
abbrev pub items_there : {X A : Type 0} → Option (Vec (Bor X) A) → List X
items_there None = []
items_there (Some v) = map (λ x. x.now) v.items
