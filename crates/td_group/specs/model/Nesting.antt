-- GROUP, UNGROUP, WRAP and UNWRAP, each by a comprehension over the tuples of its operand (Tutorial D's).
use Rattle.std.specs.Prelude.{ℕ, Bool, true, false, not, ◌&&◌, List, [], ◌∷◌, ◌++◌, Option, Some, map}
use Rattle.std.specs.List.{flat_map}
use Rattle.td_algebra.specs.model.Operators.{extended_relation, projected_relation, restriction, new_attribute}
use Rattle.td_types.specs.model.Headings.{has_attribute, has_projection, have_no_common, heading_union, outside, projection, with_attribute, without_attribute}
use Rattle.td_types.specs.model.Types.{Type', Heading, attribute_names, pack, type_at, unpack}
use Rattle.td_types.specs.model.Types as types
use Rattle.td_value.specs.model.Agreement.{agree_on}
use Rattle.td_value.specs.model.Values.{Val, tuple, relation, Tuple, Relation, projected_tuple, relation_of, relation_value, tuple_of, tuple_value, unpack_fields, unpack_rows, value_at}

-- ---- some attributes, and the rest

-- the attributes of a heading that are not among the names
abbrev pub rest_heading : List (List ℕ) → Heading → Heading
rest_heading names h = outside (projection names h) h

-- their names
abbrev pub rest_names : List (List ℕ) → Relation → List (List ℕ)
rest_names names r = attribute_names (rest_heading names r.heading)

-- whether attributes can be put into a new one: each is there, none comes twice, and the rest has none of the new name
abbrev pub can_nest : List (List ℕ) → List ℕ → Heading → Bool
can_nest names name h = has_projection names h && not (has_attribute name (rest_heading names h))

-- ---- GROUP and WRAP

-- the relation that is X of t: the set of the N parts of the tuples that agree with t on the rest
abbrev pub group_of : List (List ℕ) → Relation → Tuple → Relation
group_of names r t = projected_relation names (restriction (agree_on (rest_names names r) t) r)

-- r GROUP ({N} AS X): the projection on the rest, with X the set of the N parts of the tuples that agree on the rest
abbrev pub grouped_relation : List (List ℕ) → List ℕ → Relation → Relation
grouped_relation names name r =
    extended_relation
    (new_attribute name (types.relation (pack (projection names r.heading))) (λ t. relation_value (group_of names r t)) ∷ [])
    (projected_relation (rest_names names r) r)

-- t with the N part as one attribute X
abbrev pub wrapped_tuple : List (List ℕ) → List ℕ → Relation → Tuple → Tuple
wrapped_tuple names name r t =
    tuple_of (projected_tuple (rest_names names r) t ++ (name, tuple_value (projected_tuple names t)) ∷ [])

-- r WRAP ({N} AS X): each tuple with the tuple of its N part
abbrev pub wrapped_relation : List (List ℕ) → List ℕ → Relation → Relation
wrapped_relation names name r =
    relation_of
    (with_attribute (rest_heading names r.heading) (name, types.tuple (pack (projection names r.heading))))
    (map (wrapped_tuple names name r) r.body)

-- ---- UNGROUP and UNWRAP

-- the heading inside a tuple or relation type
abbrev pub heading_inside : Option Type' → Heading
heading_inside (Some (types.tuple xs)) = unpack xs
heading_inside (Some (types.relation xs)) = unpack xs
heading_inside t = []

-- the heading of an attribute of a tuple or relation type
abbrev pub inner_heading : List ℕ → Heading → Heading
inner_heading name h = heading_inside (type_at name h)

-- whether it is a type, of relations or of tuples
abbrev pub is_relation_type : Option Type' → Bool
is_relation_type (Some (types.relation xs)) = true
is_relation_type t = false

abbrev pub is_tuple_type : Option Type' → Bool
is_tuple_type (Some (types.tuple xs)) = true
is_tuple_type t = false

-- an attribute's heading has no name of the rest
abbrev pub can_unnest : List ℕ → Heading → Bool
can_unnest name h = have_no_common (without_attribute name h) (inner_heading name h)

-- the tuples that a value is or has
abbrev pub tuples_inside : Option Val → List Tuple
tuples_inside (Some (tuple fs)) = unpack_fields fs ∷ []
tuples_inside (Some (relation xs rs)) = unpack_rows rs
tuples_inside v = []

-- the names of the other attributes
abbrev pub names_without : List ℕ → Relation → List (List ℕ)
names_without name r = attribute_names (without_attribute name r.heading)

-- the rest of u with each tuple of X of u
abbrev pub unnested_tuples : List ℕ → Relation → Tuple → List Tuple
unnested_tuples name r u =
    map (λ x. tuple_of (projected_tuple (names_without name r) u ++ x)) (tuples_inside (value_at name u))

-- r UNGROUP (X) and r UNWRAP (X): each tuple x of X of u with the rest of u; of a tuple-valued X the one tuple
abbrev pub unnested_relation : List ℕ → Relation → Relation
unnested_relation name r =
    relation_of (heading_union (without_attribute name r.heading) (inner_heading name r.heading))
    (flat_map (unnested_tuples name r) r.body)
