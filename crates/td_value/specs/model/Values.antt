-- Values, tuples and relations (a relation is a set of tuples, as in Tutorial D; the order of values is this project's own).
use Rattle.std.specs.Prelude.{◌≡◌, ℕ, ◌-◌, ◌^◌, ℤ, pos, ◌≤ℤ◌, negsuc, nat_lt, Bool, List, [], ◌∷◌, filter, map, Option, Some, None, if◌then◌else◌, not, IsUtf8, ◌↔◌, ⊤}
use Rattle.std.specs.Ordering.{nat_cmp, int_cmp, bool_cmp, eq_by_cmp, ordering_then}
use Rattle.std.specs.declared.cmp.Ordering.{Ordering}
use Rattle.std.specs.declared.cmp.Ordering.TheVariants.{Less, Equal, Greater}
use Rattle.std.specs.Cmp.Lexicographic.{slice_cmp}
use Rattle.std.specs.List.Sorted.{IsStrictlySortedBy}
use Rattle.std.specs.List.{Contains}
use Rattle.td_tree.specs.model.Names.{IsName}
use Rattle.td_tree.specs.model.Outcomes.{Outcome, value_if}
use Rattle.td_tree.specs.declared.cause.Cause.TheVariants as causes
use Rattle.td_types.specs.model.Headings.{are_distinct, has_name}
use Rattle.td_types.specs.model.Types.{Type', IsHeading, same_name, Attrs, no_attrs, attr, Attribute, Heading, attrs_cmp, pack}
use Rattle.td_types.specs.model.Types as types
use Rattle.td_value.specs.model.Sets.{put_in, set_of}

-- a value of any type: a user value is a type's name with its components, a tuple a finite map from names to values,
-- a relation a heading with a set of tuples of that heading (the chapter's)
mutual
  pub data Val : Type 0 where
    boolean : Bool → Val
    integer : ℤ → Val
    char : List ℕ → Val
    user : List ℕ → Parts → Val
    tuple : Fields → Val
    relation : Attrs → Rows → Val

  -- a user value's components, in declared order
  pub data Parts : Type 0 where
    no_parts : Parts
    part : Val → Parts → Parts

  -- a tuple inside a value
  pub data Fields : Type 0 where
    no_fields : Fields
    field : List ℕ → Val → Fields → Fields

  -- a relation's tuples inside a value
  pub data Rows : Type 0 where
    no_rows : Rows
    row : Fields → Rows → Rows

-- a tuple: its names with their values, in name order
abbrev pub Tuple : Type 0
Tuple = List (List ℕ × Val)

-- a user value: its type's name, and its components in declared order
pub record UserValue : Type 0 where
  pub name : List ℕ
  pub components : List Val

-- a relation: its heading, and its body as the strictly ascending list of its tuples
pub record Relation : Type 0 where
  pub heading : Heading
  pub body : List Tuple

-- lists of values, of entries and of tuples as they stand inside a value, and back
abbrev pub pack_parts : List Val → Parts
pack_parts [] = no_parts
pack_parts (v ∷ vs) = part v (pack_parts vs)

abbrev pub pack_fields : Tuple → Fields
pack_fields [] = no_fields
pack_fields (e ∷ es) = field e.0 e.1 (pack_fields es)

abbrev pub unpack_fields : Fields → Tuple
unpack_fields no_fields = []
unpack_fields (field n v fs) = (n, v) ∷ unpack_fields fs

abbrev pub pack_rows : List Tuple → Rows
pack_rows [] = no_rows
pack_rows (t ∷ ts) = row (pack_fields t) (pack_rows ts)

abbrev pub unpack_rows : Rows → List Tuple
unpack_rows no_rows = []
unpack_rows (row fs rs) = unpack_fields fs ∷ unpack_rows rs

-- a user value as a value
abbrev pub selected_value : UserValue → Val
selected_value u = user u.name (pack_parts u.components)

-- a tuple and a relation as values
abbrev pub tuple_value : Tuple → Val
tuple_value t = tuple (pack_fields t)

abbrev pub relation_value : Relation → Val
relation_value r = relation (pack r.heading) (pack_rows r.body)

-- ---- the order of values (this project's own): FALSE before TRUE, numbers by size, texts by their bytes in UTF-8, user
-- values by their components in declared order, tuples by their values in name order, relations by their ascending lists
-- of tuples, a proper prefix first. Between values of two types it is some total order, which no output shows

-- the place of a value's kind among the kinds
abbrev pub value_kind : Val → ℕ
value_kind (boolean b) = 0
value_kind (integer z) = 1
value_kind (char s) = 2
value_kind (user n ps) = 3
value_kind (tuple fs) = 4
value_kind (relation h rs) = 5

abbrev mutual
  pub value_cmp : Val → Val → Ordering
  value_cmp (boolean a) (boolean b) = bool_cmp a b
  value_cmp (integer x) (integer y) = int_cmp x y
  value_cmp (char s) (char t) = slice_cmp nat_cmp s t
  value_cmp (user m ps) (user n qs) = ordering_then (slice_cmp nat_cmp m n) (parts_cmp ps qs)
  value_cmp (tuple fs) (tuple gs) = fields_cmp fs gs
  value_cmp (relation h rs) (relation i ss) = ordering_then (attrs_cmp h i) (rows_cmp rs ss)
  value_cmp v w = nat_cmp (value_kind v) (value_kind w)

  pub parts_cmp : Parts → Parts → Ordering
  parts_cmp no_parts no_parts = Equal
  parts_cmp no_parts (part w qs) = Less
  parts_cmp (part v ps) no_parts = Greater
  parts_cmp (part v ps) (part w qs) = ordering_then (value_cmp v w) (parts_cmp ps qs)

  pub fields_cmp : Fields → Fields → Ordering
  fields_cmp no_fields no_fields = Equal
  fields_cmp no_fields (field n w gs) = Less
  fields_cmp (field m v fs) no_fields = Greater
  fields_cmp (field m v fs) (field n w gs) = ordering_then (slice_cmp nat_cmp m n) (ordering_then (value_cmp v w) (fields_cmp fs gs))

  pub rows_cmp : Rows → Rows → Ordering
  rows_cmp no_rows no_rows = Equal
  rows_cmp no_rows (row gs ss) = Less
  rows_cmp (row fs rs) no_rows = Greater
  rows_cmp (row fs rs) (row gs ss) = ordering_then (fields_cmp fs gs) (rows_cmp rs ss)

-- the order of tuples
abbrev pub tuple_cmp : Tuple → Tuple → Ordering
tuple_cmp s t = fields_cmp (pack_fields s) (pack_fields t)

-- the order of relations
abbrev pub relation_cmp : Relation → Relation → Ordering
relation_cmp r s = ordering_then (attrs_cmp (pack r.heading) (pack s.heading)) (rows_cmp (pack_rows r.body) (pack_rows s.body))

-- the order of a tuple's entries: by name, then by value
abbrev pub entry_cmp : List ℕ × Val → List ℕ × Val → Ordering
entry_cmp e f = ordering_then (slice_cmp nat_cmp e.0 f.0) (value_cmp e.1 f.1)

-- the finite map that pairs of distinct names are, as the set of them in name order
abbrev pub tuple_of : Tuple → Tuple
tuple_of = set_of entry_cmp

-- the entries of those names alone: the tuple projected on them (the chapter's)
abbrev pub projected_tuple : List (List ℕ) → Tuple → Tuple
projected_tuple names = filter (λ e. has_name e.0 names)

-- ---- the type of a value

abbrev mutual
  pub type_of : Val → Type'
  type_of (boolean b) = types.boolean
  type_of (integer z) = types.integer
  type_of (char s) = types.char
  type_of (user n ps) = types.user n
  type_of (tuple fs) = types.tuple (fields_type fs)
  type_of (relation h rs) = types.relation h

  pub fields_type : Fields → Attrs
  fields_type no_fields = no_attrs
  fields_type (field n v fs) = attr n (type_of v) (fields_type fs)

-- the heading of a tuple: each name with the type of its value
abbrev pub heading_of : Tuple → Heading
heading_of = map (λ e. (e.0, type_of e.1))

-- the values have, in number and order, the types of the components
abbrev pub HaveTypesOf : List Val → List Attribute → Type 0
HaveTypesOf vs components = map type_of vs ≡ map (λ a. a.1) components

-- ---- what holds of every value, at every depth

-- the numbers of INTEGER (this project's own range)
abbrev pub IsInRange : ℤ → Type 0
IsInRange z = (negsuc (2 ^ 63 - 1) ≤ℤ z) × (z ≤ℤ pos (2 ^ 63 - 1))

-- whether a number is one of them
abbrev pub is_in_range : ℤ → Bool
is_in_range (pos n) = nat_lt n (2 ^ 63)
is_in_range (negsuc n) = nat_lt n (2 ^ 63)

-- the value of a number: one out of range is OVERFLOW
abbrev pub of_number : ℤ → Outcome Val
of_number z = value_if (is_in_range z) (integer z) causes.Overflow

-- a tuple's names, in order
abbrev pub tuple_names : Tuple → List (List ℕ)
tuple_names = map (λ e. e.0)

-- the tuples ascend, so none comes twice
abbrev pub IsAscendingBody : List Tuple → Type 0
IsAscendingBody = IsStrictlySortedBy tuple_cmp

-- numbers are in range, texts are UTF-8, names are names and ascend, tuples ascend and have their relation's heading, which
-- is one
abbrev mutual
  pub IsValue : Val → Type 0
  IsValue (boolean b) = ⊤
  IsValue (integer z) = IsInRange z
  IsValue (char s) = IsUtf8 s
  IsValue (user n ps) = IsName n × AreValues ps
  IsValue (tuple fs) = AreFields fs × IsStrictlySortedBy (slice_cmp nat_cmp) (tuple_names (unpack_fields fs))
  IsValue (relation h rs) = AreRows h rs × IsAscendingBody (unpack_rows rs) × IsHeading h

  pub AreValues : Parts → Type 0
  AreValues no_parts = ⊤
  AreValues (part v ps) = IsValue v × AreValues ps

  pub AreFields : Fields → Type 0
  AreFields no_fields = ⊤
  AreFields (field n v fs) = IsName n × IsValue v × AreFields fs

  pub AreRows : Attrs → Rows → Type 0
  AreRows h no_rows = ⊤
  AreRows h (row fs rs) = (AreFields fs × IsStrictlySortedBy (slice_cmp nat_cmp) (tuple_names (unpack_fields fs)) × (fields_type fs ≡ h)) × AreRows h rs

-- a tuple, all of whose values are values
abbrev pub IsTuple : Tuple → Type 0
IsTuple t = IsValue (tuple (pack_fields t))

-- a relation, all of whose tuples are tuples of its heading
abbrev pub IsRelation : Relation → Type 0
IsRelation r = IsValue (relation (pack r.heading) (pack_rows r.body))

-- a user value, all of whose components are values
abbrev pub IsUserValue : UserValue → Type 0
IsUserValue u = IsValue (user u.name (pack_parts u.components))

-- a tuple of the heading, which is one
abbrev pub IsTupleOf : Heading → Tuple → Type 0
IsTupleOf heading t = IsTuple t × (heading_of t ≡ heading) × IsHeading (pack heading)

-- the value that a tuple, as a finite map, gives to a name
abbrev pub value_at : List ℕ → Tuple → Option Val
value_at n [] = None
value_at n (e ∷ es) = if same_name e.0 n then Some e.1 else value_at n es

-- the tuple gives each name the value that the entries give it
abbrev pub HasValuesOf : Tuple → Tuple → Type 0
HasValuesOf entries t = (name : List ℕ) → value_at name t ≡ value_at name entries

-- the tuple of entries, no two of one name; else the cause HEADING (the chapter's; the cause is this project's own)
abbrev pub made_tuple : Tuple → Outcome Tuple
made_tuple entries = value_if (are_distinct (tuple_names entries)) (tuple_of entries) causes.Heading

-- a tuple is in one of the lists exactly where it is in the other
abbrev pub HaveSameMembers : List Tuple → List Tuple → Type 0
HaveSameMembers ss ts = (t : Tuple) → Contains ss t ↔ Contains ts t

-- any two of the tuples have the same names
abbrev pub HaveSameNames : List Tuple → Type 0
HaveSameNames ts = (s t : Tuple) → Contains ts s → Contains ts t → tuple_names s ≡ tuple_names t

-- the relation of the heading whose body is the set of the tuples
abbrev pub relation_of : Heading → List Tuple → Relation
relation_of heading tuples = record { heading = heading; body = set_of tuple_cmp tuples }

-- the relation with the tuple as a member, and without it
abbrev pub with_tuple : Tuple → Relation → Relation
with_tuple t r = record { heading = r.heading; body = put_in tuple_cmp t r.body }

abbrev pub without_tuple : Tuple → Relation → Relation
without_tuple t r = record { heading = r.heading; body = filter (λ u. not (eq_by_cmp tuple_cmp t u)) r.body }

-- the relation of a heading and its ascending list of tuples
abbrev pub relation_view : Heading → List Tuple → Relation
relation_view h ts = record { heading = h; body = ts }

-- the user value of a type's name and its components
abbrev pub user_view : List ℕ → List Val → UserValue
user_view n vs = record { name = n; components = vs }
