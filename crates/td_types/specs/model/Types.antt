-- Types and headings as Tutorial D has them, apart from how the code stores them.
use Rattle.std.specs.Prelude.{◌≡◌, ℕ, Bool, List, [], ◌∷◌, map, Option, Some, None, if◌then◌else◌, ◌==◌, ⊤}
use lib.Pointwise.{pointwise}
use Rattle.std.specs.Ordering.{nat_cmp, ordering_then}
use Rattle.std.specs.declared.cmp.Ordering.{Ordering}
use Rattle.std.specs.declared.cmp.Ordering.TheVariants.{Less, Equal, Greater}
use Rattle.td_tree.specs.model.Names.{IsName}
use Rattle.std.specs.Cmp.Lexicographic.{slice_cmp}
use Rattle.std.specs.List.Sorted.{IsStrictlySortedBy}

mutual
  -- a type: a scalar type, a user type by its name, or the tuples or the relations of a heading
  pub data Type' : Type 0 where
    boolean : Type'
    integer : Type'
    char : Type'
    user : List ℕ → Type'
    tuple : Attrs → Type'
    relation : Attrs → Type'

  -- a heading inside a type: its attributes, each a name and a type
  pub data Attrs : Type 0 where
    no_attrs : Attrs
    attr : List ℕ → Type' → Attrs → Attrs

-- an attribute: its name in UTF-8, and its type
abbrev pub Attribute : Type 0
Attribute = List ℕ × Type'

-- a heading: its attributes, in name order
abbrev pub Heading : Type 0
Heading = List Attribute

-- a heading as it stands inside a type, and back
abbrev pub pack : Heading → Attrs
pack [] = no_attrs
pack (a ∷ xs) = attr a.0 a.1 (pack xs)

abbrev pub unpack : Attrs → Heading
unpack no_attrs = []
unpack (attr n t xs) = (n, t) ∷ unpack xs

abbrev pub attribute_names : Heading → List (List ℕ)
attribute_names = map (λ a. a.0)

-- each name stands before the next by bytes, which is by code points, so no name comes twice
abbrev pub IsAscending : Heading → Type 0
IsAscending xs = IsStrictlySortedBy (slice_cmp nat_cmp) (attribute_names xs)

-- the name stands before those of the heading
abbrev pub IsBefore : List ℕ → Attrs → Type 0
IsBefore n no_attrs = ⊤
IsBefore n (attr m t xs) = (slice_cmp nat_cmp n m ≡ Less) × IsBefore n xs

abbrev mutual
  -- what every type of the code is: names in it are names, and headings ascend, at every depth
  pub IsType : Type' → Type 0
  IsType boolean = ⊤
  IsType integer = ⊤
  IsType char = ⊤
  IsType (user n) = IsName n
  IsType (tuple xs) = IsHeading xs
  IsType (relation xs) = IsHeading xs

  pub IsHeading : Attrs → Type 0
  IsHeading no_attrs = ⊤
  IsHeading (attr n t xs) = IsName n × IsType t × IsBefore n xs × IsHeading xs

-- whether two names are the same
abbrev pub same_name : List ℕ → List ℕ → Bool
same_name = pointwise ◌==◌

-- the type that a heading, as a finite map, gives to a name
abbrev pub type_at : List ℕ → Heading → Option Type'
type_at n [] = None
type_at n (x ∷ xs) = if same_name x.0 n then Some x.1 else type_at n xs

-- ---- the order of types (this project's own: no output shows it)

-- the place of the type's kind
abbrev pub type_kind : Type' → ℕ
type_kind boolean = 0
type_kind integer = 1
type_kind char = 2
type_kind (user n) = 3
type_kind (tuple xs) = 4
type_kind (relation xs) = 5

abbrev mutual
  -- by kind, then by name or heading
  pub type_cmp : Type' → Type' → Ordering
  type_cmp (user m) (user n) = slice_cmp nat_cmp m n
  type_cmp (tuple xs) (tuple ys) = attrs_cmp xs ys
  type_cmp (relation xs) (relation ys) = attrs_cmp xs ys
  type_cmp s t = nat_cmp (type_kind s) (type_kind t)

  -- attribute by attribute, by name and then by type
  pub attrs_cmp : Attrs → Attrs → Ordering
  attrs_cmp no_attrs no_attrs = Equal
  attrs_cmp no_attrs (attr n t ys) = Less
  attrs_cmp (attr m s xs) no_attrs = Greater
  attrs_cmp (attr m s xs) (attr n t ys) = ordering_then (slice_cmp nat_cmp m n) (ordering_then (type_cmp s t) (attrs_cmp xs ys))

abbrev pub heading_cmp : Heading → Heading → Ordering
heading_cmp g h = attrs_cmp (pack g) (pack h)
