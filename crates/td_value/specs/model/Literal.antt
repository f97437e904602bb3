-- The literal of a value (Tutorial D's selectors in one spelling, which is this project's own).
use Rattle.std.specs.Prelude.{ℕ, Bool, true, false, List, [], ◌++◌, codes, if◌then◌else◌}
use Rattle.std.specs.Fmt.{signed_decimal}
use Rattle.td_tree.specs.model.TextTokens.{text_in_quotes}
use Rattle.td_types.specs.model.Types as types
use Rattle.td_types.specs.model.Texts.{comma_if, type_text}
use Rattle.td_value.specs.model.Values.{Val, boolean, integer, char, user, tuple, relation, Parts, no_parts, part, Fields, no_fields, field, Rows, no_rows, row, Tuple, Relation, pack_fields, pack_rows}
use Rattle.td_types.specs.model.Types.{pack}

-- numbers in decimal, TRUE and FALSE, texts between quotes, T(v1, v2), TUPLE {A v, B w} in name order, and a relation's type
-- with its tuples between braces; `later` where a part stands before
abbrev mutual
  pub literal : Val → List ℕ
  literal (boolean b) = if b then codes "TRUE" else codes "FALSE"
  literal (integer z) = signed_decimal z
  literal (char s) = text_in_quotes s
  literal (user n ps) = n ++ codes "(" ++ parts_literal false ps ++ codes ")"
  literal (tuple fs) = codes "TUPLE {" ++ fields_literal false fs ++ codes "}"
  literal (relation h rs) = type_text (types.relation h) ++ codes " {" ++ rows_literal false rs ++ codes "}"

  pub parts_literal : Bool → Parts → List ℕ
  parts_literal later no_parts = []
  parts_literal later (part v ps) = comma_if later ++ literal v ++ parts_literal true ps

  pub fields_literal : Bool → Fields → List ℕ
  fields_literal later no_fields = []
  fields_literal later (field n v fs) = comma_if later ++ n ++ codes " " ++ literal v ++ fields_literal true fs

  pub rows_literal : Bool → Rows → List ℕ
  rows_literal later no_rows = []
  rows_literal later (row fs rs) = comma_if later ++ codes "TUPLE {" ++ fields_literal false fs ++ codes "}" ++ rows_literal true rs

-- the literal of a tuple
abbrev pub tuple_literal : Tuple → List ℕ
tuple_literal t = literal (tuple (pack_fields t))

-- the literal of a relation
abbrev pub relation_literal : Relation → List ℕ
relation_literal r = literal (relation (pack r.heading) (pack_rows r.body))
