-- How deep values nest, so that recursion over them ends.
use Rattle.std.specs.Prelude.{ℕ, suc, max}
use Rattle.td_value.specs.model.Values.{Val, boolean, integer, char, user, tuple, relation, Parts, no_parts, part, Fields, no_fields, field, Rows, no_rows, row, Tuple, Relation, UserValue, pack_fields, pack_parts, pack_rows}

abbrev mutual
  pub depth : Val → ℕ
  depth (boolean b) = 0
  depth (integer z) = 0
  depth (char s) = 0
  depth (user n ps) = suc (parts_depth ps)
  depth (tuple fs) = suc (fields_depth fs)
  depth (relation h rs) = suc (rows_depth rs)

  pub parts_depth : Parts → ℕ
  parts_depth no_parts = 0
  parts_depth (part v ps) = max (suc (depth v)) (parts_depth ps)

  pub fields_depth : Fields → ℕ
  fields_depth no_fields = 0
  fields_depth (field n v fs) = max (suc (depth v)) (fields_depth fs)

  pub rows_depth : Rows → ℕ
  rows_depth no_rows = 0
  rows_depth (row fs rs) = max (suc (fields_depth fs)) (rows_depth rs)

-- how deep the values of a tuple, of a relation and of a user value nest
abbrev pub tuple_depth : Tuple → ℕ
tuple_depth t = fields_depth (pack_fields t)

abbrev pub relation_depth : Relation → ℕ
relation_depth r = rows_depth (pack_rows r.body)

abbrev pub user_depth : UserValue → ℕ
user_depth u = parts_depth (pack_parts u.components)
