-- How the logic stores databases and catalogues: the codes that a Model asks for.
use Rattle.std.specs.Prelude.{ℕ, List, refl}
use Rattle.std.specs.Coded.{Coded, code_by, coded×, coded_list, coded_ℕ}
use Rattle.td_catalog.specs.model.Database.{BaseRelvar, Database, NamedConstraint, VirtualRelvar, base_relvar, named_constraint, virtual_relvar}
use Rattle.td_catalog.specs.code.KeptDatabases.{CatalogView}
use Rattle.td_tree.specs.code.TreeCode.{tree_code}
use Rattle.td_tree.specs.model.Trees.{Tree}
use Rattle.td_types.specs.code.TypeCode.{heading_code}
use Rattle.td_types.specs.code.TypeListCode.{declared_list_code}
use Rattle.td_types.specs.model.TypeLists.{DeclaredType}
use Rattle.td_types.specs.model.Types.{Heading}
use Rattle.td_value.specs.code.ValueCode.{relation_code}
use Rattle.td_value.specs.model.Values.{Relation}

abbrev pub keys_code : Coded (List (List (List ℕ)))
keys_code = coded_list (coded_list (coded_list coded_ℕ))

abbrev pub base_code : Coded BaseRelvar
base_code =
    code_by (List ℕ × (List (List (List ℕ)) × Relation)) (coded× (coded_list coded_ℕ) (coded× keys_code relation_code))
    (λ r. (r.name, (r.keys, r.relation))) (λ p. base_relvar p.0 p.1.0 p.1.1) (λ _. refl)

abbrev pub virtual_code : Coded VirtualRelvar
virtual_code =
    code_by (List ℕ × (Heading × (Tree × List (List (List ℕ))))) (coded× (coded_list coded_ℕ) (coded× heading_code (coded× tree_code keys_code)))
    (λ r. (r.name, (r.heading, (r.tree, r.keys)))) (λ p. virtual_relvar p.0 p.1.0 p.1.1.0 p.1.1.1) (λ _. refl)

abbrev pub constraint_code : Coded NamedConstraint
constraint_code =
    code_by (List ℕ × Tree) (coded× (coded_list coded_ℕ) tree_code)
    (λ c. (c.name, c.tree)) (λ p. named_constraint p.0 p.1) (λ _. refl)

abbrev pub database_code : Coded Database
database_code =
    code_by (List DeclaredType × (List BaseRelvar × (List VirtualRelvar × List NamedConstraint)))
    (coded× declared_list_code (coded× (coded_list base_code) (coded× (coded_list virtual_code) (coded_list constraint_code))))
    (λ db. (db.types, (db.bases, (db.virtuals, db.constraints))))
    (λ p. record { types = p.0; bases = p.1.0; virtuals = p.1.1.0; constraints = p.1.1.1 }) (λ _. refl)

abbrev pub catalog_code : Coded CatalogView
catalog_code =
    code_by (Database × List Database) (coded× database_code (coded_list database_code))
    (λ v. (v.database, v.kept)) (λ p. record { database = p.0; kept = p.1 }) (λ _. refl)
