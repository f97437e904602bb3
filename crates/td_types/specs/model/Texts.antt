-- The text of a type (this project's own): one for each type, with attributes in name order.
use Rattle.std.specs.Prelude.{ℕ, Bool, true, false, List, [], ◌++◌, codes, if◌then◌else◌}
use Rattle.td_types.specs.model.Types.{Type', boolean, integer, char, user, tuple, relation, Attrs, no_attrs, attr}

-- what stands before a part: a comma and a space where another part stands before it
abbrev pub comma_if : Bool → List ℕ
comma_if later = if later then codes ", " else []

abbrev mutual
  -- INTEGER, CHAR, BOOLEAN, a user type's name, TUPLE {A INTEGER} or RELATION {A INTEGER, B CHAR}
  pub type_text : Type' → List ℕ
  type_text boolean = codes "BOOLEAN"
  type_text integer = codes "INTEGER"
  type_text char = codes "CHAR"
  type_text (user name) = name
  type_text (tuple heading) = codes "TUPLE {" ++ attributes_text false heading ++ codes "}"
  type_text (relation heading) = codes "RELATION {" ++ attributes_text false heading ++ codes "}"

  -- each attribute's name, a space and its type, with a comma between; `later` where one stands before
  pub attributes_text : Bool → Attrs → List ℕ
  attributes_text later no_attrs = []
  attributes_text later (attr name ty attributes) = comma_if later ++ name ++ codes " " ++ type_text ty ++ attributes_text true attributes

-- a heading: its attributes between braces, {} where it has none
abbrev pub heading_text : Attrs → List ℕ
heading_text heading = codes "{" ++ attributes_text false heading ++ codes "}"
