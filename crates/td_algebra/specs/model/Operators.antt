-- The relational operators, each by a comprehension over the sets of its operands' tuples (Tutorial D's).
use Rattle.std.specs.Prelude.{ℕ, Bool, not, List, [], ◌++◌, filter, map}
use Rattle.std.specs.List.{flat_map, list_all, list_any}
use Rattle.td_types.specs.model.Headings.{common_part, has_attribute, has_name, heading_union, new_name, outside, projection, renamed_attributes}
use Rattle.td_types.specs.model.Types.{Type', Heading, attribute_names}
use Rattle.td_value.specs.model.Agreement.{agree_on}
use Rattle.td_value.specs.model.Sets.{has}
use Rattle.td_value.specs.model.Values.{Val, Tuple, Relation, projected_tuple, relation_of, tuple_cmp, tuple_names, tuple_of, relation_view}

-- ---- names

-- the names of a relation's attributes
abbrev pub relation_names : Relation → List (List ℕ)
relation_names r = attribute_names r.heading

-- the names that two relations have in common
abbrev pub common_names : Relation → Relation → List (List ℕ)
common_names r s = attribute_names (common_part r.heading s.heading)

-- the names that the first has and the second lacks
abbrev pub own_names : Relation → Relation → List (List ℕ)
own_names r s = attribute_names (outside s.heading r.heading)

-- ---- operators on one relation

-- r WHERE p: the tuples for which p is TRUE
abbrev pub restriction : (Tuple → Bool) → Relation → Relation
restriction p r = relation_view r.heading (filter p r.body)

-- r {N}: the projections of the tuples
abbrev pub projected_relation : List (List ℕ) → Relation → Relation
projected_relation names r = relation_of (projection names r.heading) (map (projected_tuple names) r.body)

-- a tuple with its names changed, all at once
abbrev pub renamed_tuple : List (List ℕ × List ℕ) → Tuple → Tuple
renamed_tuple renamings t = tuple_of (map (λ e. (new_name renamings e.0, e.1)) t)

-- r RENAME (..): the tuples with their names changed
abbrev pub renamed_relation : List (List ℕ × List ℕ) → Relation → Relation
renamed_relation renamings r =
    relation_of (heading_union [] (renamed_attributes renamings r.heading)) (map (renamed_tuple renamings) r.body)

-- a new attribute: its name, its type, and the value that it has in each tuple
pub record Addition : Type 0 where
  pub name : List ℕ
  pub kind : Type'
  pub value : Tuple → Val

-- the new attributes' names with their types, and with the values that they have in a tuple
abbrev pub added_attributes : List Addition → Heading
added_attributes = map (λ a. (a.name, a.kind))

abbrev pub added_values : List Addition → Tuple → Tuple
added_values additions t = map (λ a. (a.name, a.value t)) additions

-- a tuple with the new attributes
abbrev pub extended_tuple : List Addition → Tuple → Tuple
extended_tuple additions t = tuple_of (t ++ added_values additions t)

-- EXTEND r ADD (..): the tuples with the new attributes
abbrev pub extended_relation : List Addition → Relation → Relation
extended_relation additions r =
    relation_of (heading_union r.heading (added_attributes additions)) (map (extended_tuple additions) r.body)

-- a tuple with attributes set: its entries of the other names, and theirs
abbrev pub set_tuple : List Addition → Tuple → Tuple
set_tuple additions t =
    tuple_of (filter (λ e. not (has_attribute e.0 (added_attributes additions))) t ++ added_values additions t)

-- r with attributes set, each there before or new: the tuples with them set, all at once
abbrev pub set_relation : List Addition → Relation → Relation
set_relation additions r =
    relation_of
    (heading_union (outside (added_attributes additions) r.heading) (added_attributes additions))
    (map (set_tuple additions) r.body)

-- ---- operators on two relations of one heading

-- r UNION s: the tuples of either
abbrev pub union : Relation → Relation → Relation
union r s = relation_of r.heading (r.body ++ s.body)

-- r INTERSECT s: the tuples of r that are in s
abbrev pub intersection : Relation → Relation → Relation
intersection r s = restriction (λ t. has tuple_cmp t s.body) r

-- r MINUS s: the tuples of r that are not in s
abbrev pub difference : Relation → Relation → Relation
difference r s = restriction (λ t. not (has tuple_cmp t s.body)) r

-- r <= s: whether each tuple of r is in s
abbrev pub is_subset : Relation → Relation → Bool
is_subset r s = list_all (λ t. has tuple_cmp t s.body) r.body

-- whether no tuple is in both
abbrev pub is_disjoint : Relation → Relation → Bool
is_disjoint r s = list_all (λ t. not (has tuple_cmp t s.body)) r.body

-- ---- operators on two relations whose common attributes have one type each

-- whether a tuple of the first and one of the second agree on the common names
abbrev pub are_partners : Relation → Relation → Tuple → Tuple → Bool
are_partners r s = agree_on (common_names r s)

-- the tuple with the values of both: those of t, and of u those whose names t lacks
abbrev pub united_tuple : Tuple → Tuple → Tuple
united_tuple t u = tuple_of (t ++ filter (λ e. not (has_name e.0 (tuple_names t))) u)

-- r JOIN s: each tuple of r united with each of its partners in s
abbrev pub join : Relation → Relation → Relation
join r s =
    relation_of (heading_union r.heading s.heading)
    (flat_map (λ t. map (united_tuple t) (filter (are_partners r s t) s.body)) r.body)

-- r TIMES s: each tuple of r united with each of s
abbrev pub product : Relation → Relation → Relation
product r s =
    relation_of (heading_union r.heading s.heading) (flat_map (λ t. map (united_tuple t) s.body) r.body)

-- r COMPOSE s: the join without the common attributes
abbrev pub composition : Relation → Relation → Relation
composition r s = projected_relation (own_names r s ++ own_names s r) (join r s)

-- r MATCHING s: the tuples of r that have a partner in s
abbrev pub semijoin : Relation → Relation → Relation
semijoin r s = restriction (λ t. list_any (are_partners r s t) s.body) r

-- r NOT MATCHING s: the tuples of r that have none
abbrev pub semidifference : Relation → Relation → Relation
semidifference r s = restriction (λ t. not (list_any (are_partners r s t) s.body)) r

-- a new attribute by its name, its type and its value in each tuple
abbrev pub new_attribute : List ℕ → Type' → (Tuple → Val) → Addition
new_attribute name kind value = record { name = name; kind = kind; value = value }
