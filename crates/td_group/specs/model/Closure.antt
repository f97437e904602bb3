-- TCLOSE (Tutorial D's): the transitive closure of a relation of two attributes of one type. A tuple of it leads from its
-- value of the first attribute, in name order, to its value of the second.
use Rattle.std.specs.Prelude.{ℕ, zero, suc, Bool, false, List, [], ◌∷◌, ◌++◌, filter, length, map}
use Rattle.std.specs.List.{flat_map}
use Rattle.std.specs.Ordering.{eq_by_cmp}
use Rattle.td_value.specs.model.Values.{Tuple, Relation, relation_of, value_cmp}

-- whether the first leads to where the other leads from
abbrev pub is_followed_by : Tuple → Tuple → Bool
is_followed_by (d ∷ e ∷ []) (f ∷ es) = eq_by_cmp value_cmp e.1 f.1
is_followed_by t u = false

-- the tuple from where the first leads from to where the other leads to
abbrev pub chained_tuple : Tuple → Tuple → Tuple
chained_tuple (d ∷ es) (f ∷ gs) = d ∷ gs
chained_tuple t u = []

-- the tuples from the first to the last of chains of at most one tuple more than the number
abbrev pub chained_tuples : ℕ → List Tuple → List Tuple
chained_tuples zero ts = ts
chained_tuples (suc n) ts = ts ++ flat_map (λ t. map (chained_tuple t) (filter (is_followed_by t) ts)) (chained_tuples n ts)

-- TCLOSE r: the tuples from the first to the last of chains of tuples of r. A longer chain passes a tuple of r twice, and leads
-- nowhere else
abbrev pub closure : Relation → Relation
closure r = relation_of r.heading (chained_tuples (length r.body) r.body)
