-- What the code's nodes, tuples and relations stand for.
use Rattle.std.specs.Prelude.{ℕ, List, map}
use Rattle.std.specs.Rc.{rc_str_bytes}
use Rattle.td_value.specs.model.Values.{Val, boolean, integer, char, user, tuple, relation, Tuple, pack_parts, pack_fields, pack_rows}
use Rattle.td_types.specs.model.Types.{pack}
use Rattle.td_value.specs.declared.value.Node.{Node}
use Rattle.td_value.specs.declared.value.Node.TheVariants.{Bool, Int, Text, User, Tup, Rel}
use Rattle.std.specs.List.{zip}

-- the value that a node of the code is
abbrev pub node_view : Node → Val
node_view (Bool b) = boolean b
node_view (Int z) = integer z
node_view (Text s) = char (rc_str_bytes s)
node_view (User u) = user u.value.name (pack_parts u.value.components)
node_view (Tup t) = tuple (pack_fields t.value)
node_view (Rel r) = relation (pack r.value.heading) (pack_rows r.value.body)

-- the entries of a list of names and a list of their values
abbrev pub tuple_view : List (List ℕ) → List Val → Tuple
tuple_view = zip

-- a tuple's values, in the order of their names
abbrev pub values_of : Tuple → List Val
values_of = map (λ e. e.1)
