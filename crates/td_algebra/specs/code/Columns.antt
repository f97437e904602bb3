-- New attributes as columns: each a name, a type, and a value for each tuple, in the order of the tuples (this project's own).
use Rattle.std.specs.Prelude.{◌≡◌, ℕ, IsTrue, List, false, get_or, length, map}
use Rattle.std.specs.List.{All}
use Rattle.std.specs.Cmp.Lexicographic.{slice_cmp}
use Rattle.std.specs.Ordering.{nat_cmp}
use Rattle.std.specs.declared.cmp.Ordering.TheVariants.{Less}
use Rattle.td_types.specs.model.Headings.{has_attribute, has_name}
use Rattle.td_types.specs.model.Types.{Type', Heading}
use Rattle.td_types.specs.code.Views.{type_view}
use Rattle.td_value.specs.model.Values.{Val, boolean, Tuple, type_of}
use Rattle.td_algebra.specs.declared.extension.Column.{Column}
use Rattle.td_algebra.specs.model.Operators.{Addition}

-- a new attribute's name, its type, and its values
abbrev pub NamedColumn : Type 0
NamedColumn = List ℕ × Type' × List Val

-- the name, type and values of each column of the code
abbrev pub columns_view : List (List ℕ × Column) → List NamedColumn
columns_view = map (λ c. (c.0, type_view c.1.ty, c.1.values.items))

-- the attributes that columns add
abbrev pub column_attributes : List NamedColumn → Heading
column_attributes = map (λ c. (c.0, c.1))

-- one value of the type for each tuple
abbrev pub IsColumn : Type' → List Val → List Tuple → Type 0
IsColumn t vs ts = (length vs ≡ length ts) × All (λ v. type_of v ≡ t) vs

-- each column has one value of its type for each of the tuples
abbrev pub AreColumns : List NamedColumn → List Tuple → Type 0
AreColumns cs ts = All (λ c. IsColumn c.1 c.2 ts) cs

-- the column of a new attribute
abbrev pub column_of : List Tuple → Addition → NamedColumn
column_of ts a = (a.name, a.kind, map a.value ts)

-- the columns are those of the new attributes
abbrev pub AreColumnsOf : List NamedColumn → List Tuple → List Addition → Type 0
AreColumnsOf cs ts additions = cs ≡ map (column_of ts) additions

-- the columns' values for the tuple at a place
abbrev pub cells_at : ℕ → List (List ℕ × Column) → List Val
cells_at place = map (λ c. get_or c.1.values.items place (boolean false))

-- each of the names stands after each of the heading's
abbrev pub AreAfter : Heading → List (List ℕ) → Type 0
AreAfter heading names =
    (old new : List ℕ) → IsTrue (has_attribute old heading) → IsTrue (has_name new names) → slice_cmp nat_cmp old new ≡ Less
