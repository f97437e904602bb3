-- What is in use: the types and relvars that entries of a database mention (Tutorial D's dependencies, as this project
-- restates them). A type mentions the types in its components and in its constraint, a base relvar those in its heading; a
-- virtual relvar and a constraint mention what their expressions do.
use Rattle.std.specs.Prelude.{ℕ, Bool, false, not, ◌||◌, List, Option, Some, None, ⊤}
use Rattle.std.specs.List.{list_any}
use Rattle.td_catalog.specs.model.Database.{BaseRelvar, Database, database_scope, knows_constraint, knows_relvar}
use Rattle.td_check.specs.model.Mentions.{relvars_in, types_in}
use Rattle.td_check.specs.model.Scopes.{Scope}
use Rattle.td_check.specs.model.StatementTypes.{holds_or}
use Rattle.td_tree.specs.model.Outcomes.{Outcome, with_value}
use Rattle.td_tree.specs.model.Trees.{Tree}
use Rattle.td_tree.specs.declared.cause.Cause.TheVariants as causes
use Rattle.td_types.specs.model.Headings.{has_name}
use Rattle.td_types.specs.model.NamedTypes.{any_names_user, is_made_of}
use Rattle.td_types.specs.model.TypeLists.{DeclaredType, is_declared}
use Rattle.td_types.specs.model.Types.{pack}

-- ---- a type of the name

-- whether an expression mentions it
abbrev pub tree_mentions_type : List ℕ → Tree → Bool
tree_mentions_type name e = has_name name (types_in e)

-- whether a type's constraint does
abbrev pub condition_mentions_type : List ℕ → Option Tree → Bool
condition_mentions_type name None = false
condition_mentions_type name (Some e) = tree_mentions_type name e

-- whether a declared type does
abbrev pub type_mentions_type : List ℕ → DeclaredType → Bool
type_mentions_type name d = is_made_of name d || condition_mentions_type name d.constraint

-- whether a base relvar does
abbrev pub base_mentions_type : List ℕ → BaseRelvar → Bool
base_mentions_type name r = any_names_user name (pack r.relation.heading)

-- whether an entry of the database does
abbrev pub is_type_in_use : List ℕ → Database → Bool
is_type_in_use name db =
    (list_any (type_mentions_type name) db.types || list_any (base_mentions_type name) db.bases)
    || (list_any (λ v. tree_mentions_type name v.tree) db.virtuals
    || list_any (λ c. tree_mentions_type name c.tree) db.constraints)

-- ---- a relvar of the name

-- whether an expression mentions it
abbrev pub tree_mentions_relvar : Scope → List ℕ → Tree → Bool
tree_mentions_relvar scope name e = has_name name (relvars_in scope e)

-- whether an entry of the database does
abbrev pub is_relvar_in_use : List ℕ → Database → Bool
is_relvar_in_use name db =
    list_any (λ v. tree_mentions_relvar (database_scope db) name v.tree) db.virtuals
    || list_any (λ c. tree_mentions_relvar (database_scope db) name c.tree) db.constraints

-- ---- what may be dropped: what is there (else NAME_UNKNOWN) and no entry mentions (else IN_USE); none mentions a constraint

abbrev pub drop_outcome : Bool → Bool → Outcome ⊤
drop_outcome there in_use = with_value (holds_or causes.NameUnknown there) (λ _. holds_or causes.InUse (not in_use))

abbrev pub type_droppable : List ℕ → Database → Outcome ⊤
type_droppable name db = drop_outcome (is_declared name db.types) (is_type_in_use name db)

abbrev pub relvar_droppable : List ℕ → Database → Outcome ⊤
relvar_droppable name db = drop_outcome (knows_relvar name db) (is_relvar_in_use name db)

abbrev pub constraint_droppable : List ℕ → Database → Outcome ⊤
constraint_droppable name db = holds_or causes.NameUnknown (knows_constraint name db)
