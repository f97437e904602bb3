-- What the hash of a value is fed, so that equal values are hashed alike: of a tuple its values alone.
use Rattle.std.specs.Prelude.{ℕ, List, ◌++◌}
use Rattle.std.specs.Hash as fed
use Rattle.td_value.specs.model.Values.{Val, boolean, integer, char, user, tuple, relation, Parts, no_parts, part, Fields, no_fields, field, Rows, no_rows, row, Tuple, Relation, pack_fields, pack_rows}

abbrev mutual
  pub fed_value : Val → List (List ℕ)
  fed_value (boolean b) = fed.bool b
  fed_value (integer z) = fed.i64 z
  fed_value (char s) = fed.str s
  fed_value (user n ps) = fed.str n ++ fed_parts ps
  fed_value (tuple fs) = fed_fields fs
  fed_value (relation h rs) = fed_rows rs

  pub fed_parts : Parts → List (List ℕ)
  fed_parts no_parts = fed.u8 0
  fed_parts (part v ps) = fed_value v ++ fed_parts ps

  pub fed_fields : Fields → List (List ℕ)
  fed_fields no_fields = fed.u8 0
  fed_fields (field n v fs) = fed_value v ++ fed_fields fs

  pub fed_rows : Rows → List (List ℕ)
  fed_rows no_rows = fed.u8 1
  fed_rows (row fs rs) = fed_fields fs ++ fed_rows rs

-- what the hash of a tuple is fed
abbrev pub fed_tuple : Tuple → List (List ℕ)
fed_tuple t = fed_fields (pack_fields t)

-- what the hash of a relation is fed: its tuples
abbrev pub fed_relation : Relation → List (List ℕ)
fed_relation r = fed_rows (pack_rows r.body)
