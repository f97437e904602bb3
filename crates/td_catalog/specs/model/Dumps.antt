-- The dump of a database: the script that makes it anew (this project's own). It has a statement on each line: the types, the base
-- relvars, the virtual relvars and the constraints, each list in its order.
use Rattle.std.specs.Prelude.{ℕ, Bool, true, false, List, [], ◌∷◌, ◌++◌, codes, filter, Option, Some, None}
use Rattle.std.specs.List.{flat_map}
use Rattle.td_catalog.specs.model.Database.{BaseRelvar, Database, NamedConstraint, VirtualRelvar}
use Rattle.td_tree.specs.model.Prints.{print}
use Rattle.td_tree.specs.model.Trees.{Tree}
use Rattle.td_types.specs.model.Headings.{has_name}
use Rattle.td_types.specs.model.Texts.{attributes_text, comma_if, type_text}
use Rattle.td_types.specs.model.TypeLists.{DeclaredType}
use Rattle.td_types.specs.model.Types.{Heading, attribute_names, pack, relation}
use Rattle.td_value.specs.model.Literal.{relation_literal}

-- ---- keys

-- the names of a key in name order: the attributes of the heading that it names
abbrev pub ordered_names : Heading → List (List ℕ) → List (List ℕ)
ordered_names h names = filter (λ n. has_name n names) (attribute_names h)

-- names with a comma between two; `later` where one stands before
abbrev pub names_text : Bool → List (List ℕ) → List ℕ
names_text later [] = []
names_text later (n ∷ ns) = comma_if later ++ n ++ names_text true ns

abbrev pub key_text : List (List ℕ) → List ℕ
key_text names = codes " KEY {" ++ names_text false names ++ codes "}"

-- the keys in declared order, each in name order
abbrev pub keys_text : Heading → List (List (List ℕ)) → List ℕ
keys_text h = flat_map (λ key. key_text (ordered_names h key))

-- ---- lines

abbrev pub line_end : List ℕ
line_end = codes ";" ++ (10 ∷ [])

-- a type's constraint, where it has one
abbrev pub condition_text : Option Tree → List ℕ
condition_text None = []
condition_text (Some e) = codes " CONSTRAINT " ++ print e

abbrev pub type_line : DeclaredType → List ℕ
type_line d =
    codes "TYPE " ++ d.name ++ codes " POSSREP {" ++ attributes_text false (pack d.components) ++ condition_text d.constraint ++ codes "}"
    ++ line_end

-- INIT has the literal of the relation, also where that is empty
abbrev pub base_line : BaseRelvar → List ℕ
base_line r =
    codes "VAR " ++ r.name ++ codes " BASE " ++ type_text (relation (pack r.relation.heading)) ++ codes " INIT ("
    ++ relation_literal r.relation ++ codes ")" ++ keys_text r.relation.heading r.keys ++ line_end

abbrev pub virtual_line : VirtualRelvar → List ℕ
virtual_line v = codes "VAR " ++ v.name ++ codes " VIRTUAL (" ++ print v.tree ++ codes ")" ++ keys_text v.heading v.keys ++ line_end

abbrev pub constraint_line : NamedConstraint → List ℕ
constraint_line c = codes "CONSTRAINT " ++ c.name ++ codes " " ++ print c.tree ++ line_end

-- ---- the dump; of an empty database it is no byte at all

unfoldable pub dump_text : Database → List ℕ
dump_text db =
    flat_map type_line db.types ++ flat_map base_line db.bases ++ flat_map virtual_line db.virtuals
    ++ flat_map constraint_line db.constraints
