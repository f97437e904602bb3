-- The dump rebuilds the database: the statements of its lines, and the law (this project's own).
use Rattle.std.specs.Prelude.{◌≡◌, ℕ, Bool, false, List, [], ◌∷◌, ◌++◌, map, Some, ⊤}
use Rattle.td_catalog.specs.model.Database.{BaseRelvar, Database, NamedConstraint, VirtualRelvar, empty_database}
use Rattle.td_catalog.specs.model.Dumps.{dump_text, ordered_names}
use Rattle.td_engine.specs.model.Machine.{Accepted, Progress, Runs, progress_at_first, effect, empty_state, ok_text, state_of}
use Rattle.td_engine.specs.model.Legality.{IsLegal}
use Rattle.td_parse.specs.model.Meanings.{has_bad}
use Rattle.td_tree.specs.model.StatementGrammar.{StatementSpelling}
use Rattle.td_tree.specs.model.Statements.{PlacedToken, statements}
use Rattle.td_tree.specs.model.TokenLexemes.{lexemes}
use Rattle.td_tree.specs.model.Trees.{Statement, define_base, define_constraint, define_type, define_virtual}
use Rattle.td_types.specs.model.TypeLists.{DeclaredType}
use Rattle.td_types.specs.model.Types.{pack}
use Rattle.td_types.specs.laws.TypeTrees.{attribute_trees}
use Rattle.td_value.specs.laws.LiteralTrees.{literal_tree}
use Rattle.td_value.specs.model.Values.{relation_value}

-- ---- the statement of each line

abbrev pub type_statement : DeclaredType → Statement
type_statement d = define_type d.name (attribute_trees (pack d.components)) d.constraint

abbrev pub base_statement : BaseRelvar → Statement
base_statement r =
    define_base r.name (attribute_trees (pack r.relation.heading)) (Some (literal_tree (relation_value r.relation)))
    (map (ordered_names r.relation.heading) r.keys)

abbrev pub virtual_statement : VirtualRelvar → Statement
virtual_statement v = define_virtual v.name v.tree (map (ordered_names v.heading) v.keys)

abbrev pub constraint_statement : NamedConstraint → Statement
constraint_statement c = define_constraint c.name c.tree

-- the statements that define a database, in the order of the dump
abbrev pub dump_statements : Database → List Statement
dump_statements db =
    map type_statement db.types ++ map base_statement db.bases ++ map virtual_statement db.virtuals
    ++ map constraint_statement db.constraints

-- ---- what the dump's bytes are read as

-- these tokens spell the statement, and none of them is bad
pub record IsReadAs (tokens : List PlacedToken) (s : Statement) : Type 0 where
  pub good : has_bad tokens ≡ false
  pub spelled : StatementSpelling (lexemes tokens) s

-- each list of tokens the statement in its place
abbrev pub AreReadAs : List (List PlacedToken) → List Statement → Type 0
AreReadAs [] [] = ⊤
AreReadAs (ts ∷ tss) (s ∷ ss) = IsReadAs ts s × AreReadAs tss ss
AreReadAs _ _ = ⊥

abbrev pub DumpsAreRead : Type 0
DumpsAreRead = (db : Database) → IsLegal db → AreReadAs (statements 0 (dump_text db)) (dump_statements db)

-- ---- what these statements do

-- each in turn is accepted, from one database to another
pub data AcceptsAll : Database → List Statement → Database → Type 0 where
  no_more : {db : Database} → AcceptsAll db [] db
  accepts : {old next new : Database} {s : Statement} {ss : List Statement} → effect old s ≡ Accepted next ok_text → AcceptsAll next ss new → AcceptsAll old (s ∷ ss) new

-- an empty database accepts each statement of the dump of a legal database
abbrev pub DumpsAreAccepted : Type 0
DumpsAreAccepted = (db : Database) → IsLegal db → AcceptsAll empty_database (dump_statements db) db

-- ---- the law

-- the machine's run of the script, from nothing: each statement is accepted, and it leaves the database, with no transaction open
pub record Rebuilds (stop : Bool) (script : List ℕ) (db : Database) : Type 0 where
  pub progress : Progress
  pub runs : Runs stop (progress_at_first empty_state) (statements 0 script) progress
  pub accepted : progress.refusals ≡ 0
  pub state_is : progress.state ≡ state_of db []

-- the dump of each legal database rebuilds it
abbrev pub DumpsRebuild : Type 0
DumpsRebuild = (stop : Bool) (db : Database) → IsLegal db → Rebuilds stop (dump_text db) db
