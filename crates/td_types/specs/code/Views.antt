-- What a type and a heading of the code stand for.
use Rattle.std.specs.Prelude.{ℕ, List, map}
use Rattle.td_types.specs.model.Types
use Rattle.td_types.specs.model.Types.{Type', boolean, integer, char, user, tuple, relation, Heading, pack}
use Rattle.td_types.specs.declared.heading.Attribute.{Attribute}
use Rattle.td_types.specs.declared.ty.Ty.{Ty}
use Rattle.td_types.specs.declared.ty.Ty.TheVariants.{Bool, Int, Text, User, Tup, Rel}

-- the type that a type of the code is
abbrev pub type_view : Ty → Type'
type_view Bool = boolean
type_view Int = integer
type_view Text = char
type_view (User n) = user n
type_view (Tup h) = tuple (pack h)
type_view (Rel h) = relation (pack h)

-- the name and the type of an attribute of the code
abbrev pub attribute_view : Attribute → Types.Attribute
attribute_view a = (a.name, type_view a.ty)

-- the attributes that pairs of the code, of a name and a type, are
abbrev pub pairs_view : List (List ℕ × Ty) → Heading
pairs_view = map (λ a. (a.0, type_view a.1))

abbrev pub heading_view : List Attribute → Heading
heading_view = map attribute_view
