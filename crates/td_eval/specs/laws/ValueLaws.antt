-- What a value depends on, and what it does not depend on: laws (Tutorial D's; the causes are this project's own).
use Rattle.std.specs.Prelude.{◌≡◌, ◌↔◌, ℕ, Bool, List, ◌++◌, filter, map, not, Some, IsTrue}
use Rattle.std.specs.List.{AllByRecursion, Contains}
use Rattle.std.specs.List.Sorted.{IsPermutation}
use Rattle.td_catalog.specs.model.Database.{BaseRelvar, Database, NamedConstraint, VirtualRelvar, base_named, database_scope, knows_relvar, relvar_names, virtual_named, with_base, with_constraint, with_declared, with_virtual, without_constraint, without_relvar, without_type}
use Rattle.td_catalog.specs.model.TypedDatabases.{IsTyped}
use Rattle.td_check.specs.model.Mentions.{relvars_in, types_in}
use Rattle.td_check.specs.model.Scopes.{Scope}
use Rattle.td_check.specs.laws.StaticLaws.{AgreeAt, AgreeOn, IsScope, UsersAllIn, is_other}
use Rattle.td_check.specs.model.StaticTypes.{type_of}
use Rattle.td_eval.specs.model.AggregateValues.{Summand, aggregated_value, summarized_value}
use Rattle.td_eval.specs.model.DatabaseWorlds.{world_of}
use Rattle.td_eval.specs.model.OperatorValues.{extended_by_settings, extended_value, is_true, of_relation, restricted_value, truth_value}
use Rattle.td_eval.specs.model.TreeValues.{value_of}
use Rattle.td_eval.specs.laws.ValueTypes.{AreComponentsOf, IsTypedTuple, KeepsScope}
use Rattle.td_eval.specs.model.Worlds.{World, selector_outcome, with_tuples}
use Rattle.td_group.specs.model.Aggregates.{aggregate}
use Rattle.td_group.specs.declared.aggregates.Agg.{Agg}
use Rattle.td_tree.specs.declared.cause.Cause.{Cause}
use Rattle.td_tree.specs.model.Outcomes.{Has, Outcome, Valued, Refused, gathered, least, with_value}
use Rattle.td_tree.specs.model.Trees.{Attributes, Tree, postfix, summarize_per, summarize_by, Summaries, project}
use Rattle.td_tree.specs.model.WrittenTrees.{GivesNames, IsWritten}
use Rattle.td_types.specs.model.Headings.{are_distinct, have_no_common}
use Rattle.td_types.specs.model.TypeLists.{DeclaredType, declared_at}
use Rattle.td_types.specs.model.Types.{Attribute, Heading, Type', pack}
use Rattle.td_value.specs.model.Values.{Val, HaveSameMembers, IsRelation, Relation, Tuple, heading_of, relation_of, relation_view}

-- ---- what is mentioned

-- an expression that has a type with these tuples in scope: their values are of their types, names
-- that it gives are names, and its texts are UTF-8
pub record IsChecked (scope : Scope) (s : List Tuple) (e : Tree) : Type 0 where
  pub tuples : AllByRecursion (IsTypedTuple scope.types) s
  pub written : IsWritten e
  pub typed : (t : Type') × (type_of (with_tuples scope s) e ≡ Valued t)

-- the selector of the name gives the same of the type's components in both worlds
abbrev pub SelectsTheSame : Scope → World → World → List ℕ → Type 0
SelectsTheSame scope first second n =
    (d : DeclaredType) (vs : List Val) → declared_at n scope.types ≡ Some d → AreComponentsOf scope.types d vs
    → selector_outcome second n vs ≡ selector_outcome first n vs

-- the second world knows the relvar of the name by the same heading, and it has the same value there
abbrev pub HasTheSame : (List ℕ → Bool) → Scope → World → World → List ℕ → Type 0
HasTheSame among scope first second n = AgreeAt among scope second.scope n × (second.relvar n ≡ first.relvar n)

-- both worlds agree on what the expression mentions with these tuples in scope: on its types, those
-- that they and the tuples are made of, and its relvars
pub record AgreeOnMentions (among : List ℕ → Bool) (scope : Scope) (first second : World) (s : List Tuple) (e : Tree) : Type 0 where
  pub known : AgreeOn among (with_tuples scope s) (with_tuples second.scope s)
  pub types : (n : List ℕ) → Contains (types_in e) n → IsTrue (among n) × SelectsTheSame scope first second n
  pub relvars : (n : List ℕ) → Contains (relvars_in (with_tuples scope s) e) n → HasTheSame among scope first second n

-- there the expression has the same value, or the same causes: both depend only on what it mentions
abbrev pub ValuesDependOnMentions : Type 0
ValuesDependOnMentions =
    (among : List ℕ → Bool) (scope : Scope) (first second : World) (s : List Tuple) (e : Tree) → KeepsScope first scope
    → IsChecked scope s e → AgreeOnMentions among scope first second s e → value_of second s e ≡ value_of first s e

-- ---- entries that are mentioned

-- the second list declares the types among these as the first does, and they are made of such types and mention no others
pub record AgreeOnTypes (among : List ℕ → Bool) (first second : List DeclaredType) : Type 0 where
  pub same : (n : List ℕ) (d : DeclaredType) → IsTrue (among n) → declared_at n first ≡ Some d → declared_at n second ≡ Some d
  pub components : (n : List ℕ) (d : DeclaredType) → IsTrue (among n) → declared_at n first ≡ Some d → UsersAllIn among (pack d.components)
  pub constraints :
      (n : List ℕ) (d : DeclaredType) (e : Tree) → IsTrue (among n) → declared_at n first ≡ Some d → d.constraint ≡ Some e
      → (m : List ℕ) → Contains (types_in e) m → IsTrue (among m)

-- the second database has the relvars of the first among these, the base ones with the same relations, which are made of
-- such types, and the virtual ones with the same headings and expressions, which are made of such types, and mention no other
-- types and no other relvars
pub record AgreeOnRelvars (among seen : List ℕ → Bool) (first second : Database) : Type 0 where
  pub bases :
      (n : List ℕ) (r : BaseRelvar) → IsTrue (seen n) → base_named n first ≡ Some r
      → UsersAllIn among (pack r.relation.heading) × (q : BaseRelvar) × (base_named n second ≡ Some q) × (q.relation ≡ r.relation)
  pub virtuals :
      (n : List ℕ) (v : VirtualRelvar) → IsTrue (seen n) → virtual_named n first ≡ Some v
      → UsersAllIn among (pack v.heading) × (u : VirtualRelvar) × (virtual_named n second ≡ Some u) × (u.heading ≡ v.heading) × (u.tree ≡ v.tree)
  pub types :
      (n : List ℕ) (v : VirtualRelvar) → IsTrue (seen n) → virtual_named n first ≡ Some v
      → (m : List ℕ) → Contains (types_in v.tree) m → IsTrue (among m)
  pub relvars :
      (n : List ℕ) (v : VirtualRelvar) → IsTrue (seen n) → virtual_named n first ≡ Some v
      → (m : List ℕ) → Contains (relvars_in (database_scope first) v.tree) m → IsTrue (seen m)

-- both databases agree on the entries that the expression mentions with these tuples in scope: its
-- types, those that they and the tuples are made of, its relvars, and those that these mention
pub record AgreeOnEntries (among seen : List ℕ → Bool) (first second : Database) (s : List Tuple) (e : Tree) : Type 0 where
  pub types : AgreeOnTypes among first.types second.types
  pub relvars : AgreeOnRelvars among seen first second
  pub tuples : (h : Heading) → Contains (map heading_of s) h → UsersAllIn among (pack h)
  pub mentioned : (n : List ℕ) → Contains (types_in e) n → IsTrue (among n)
  pub mentioned_relvars : (n : List ℕ) → Contains (relvars_in (with_tuples (database_scope first) s) e) n → IsTrue (seen n)

-- where both are typed, the expression has the same value in both, or the same causes, whatever else they have
abbrev pub ValuesDependOnEntries : Type 0
ValuesDependOnEntries =
    (among seen : List ℕ → Bool) (first second : Database) (s : List Tuple) (e : Tree) → IsTyped first → IsTyped second
    → IsChecked (database_scope first) s e
    → AgreeOnEntries among seen first second s e → value_of (world_of second) s e ≡ value_of (world_of first) s e

-- an expression that does not mention a dropped entry keeps its value, where the database is typed
-- before and after; the tuples in scope are not made of a type that is dropped
pub record DropsChangeNoValue : Type 0 where
  pub relvar :
      (db : Database) (dropped : List ℕ) (s : List Tuple) (e : Tree) → IsTyped db → IsTyped (without_relvar dropped db)
      → IsChecked (database_scope db) s e
      → (Contains (relvars_in (with_tuples (database_scope db) s) e) dropped → ⊥)
      → value_of (world_of (without_relvar dropped db)) s e ≡ value_of (world_of db) s e
  pub type :
      (db : Database) (dropped : List ℕ) (s : List Tuple) (e : Tree) → IsTyped db → IsTyped (without_type dropped db)
      → IsChecked (database_scope db) s e
      → ((h : Heading) → Contains (map heading_of s) h → UsersAllIn (is_other dropped) (pack h))
      → (Contains (types_in e) dropped → ⊥)
      → value_of (world_of (without_type dropped db)) s e ≡ value_of (world_of db) s e
  -- no expression mentions a constraint
  pub constraint :
      (db : Database) (dropped : List ℕ) (s : List Tuple) (e : Tree) → IsTyped db → IsTyped (without_constraint dropped db)
      → IsChecked (database_scope db) s e
      → value_of (world_of (without_constraint dropped db)) s e ≡ value_of (world_of db) s e

-- ---- later entries

-- the second database has what the first has, and more types, base relvars and virtual relvars behind; the names of its
-- relvars are distinct
pub record HasLater (first second : Database) : Type 0 where
  pub types : (more : List DeclaredType) × (second.types ≡ first.types ++ more)
  pub bases : (more : List BaseRelvar) × (second.bases ≡ first.bases ++ more)
  pub virtuals : (more : List VirtualRelvar) × (second.virtuals ≡ first.virtuals ++ more)
  pub distinct : IsTrue (are_distinct (relvar_names second))

-- there an expression that has a type in the first, which is typed, has the same value or the same causes; an entry that is
-- added to a typed database stands behind, a relvar where no relvar has its name
pub record LaterEntriesChangeNothing : Type 0 where
  pub values :
      (first second : Database) (s : List Tuple) (e : Tree) → IsTyped first
      → HasLater first second → IsChecked (database_scope first) s e → value_of (world_of second) s e ≡ value_of (world_of first) s e
  pub one_type : (db : Database) (d : DeclaredType) → IsTyped db → HasLater db (with_declared d db)
  pub one_base : (db : Database) (r : BaseRelvar) → IsTyped db → IsTrue (not (knows_relvar r.name db)) → HasLater db (with_base r db)
  pub one_virtual : (db : Database) (v : VirtualRelvar) → IsTyped db → IsTrue (not (knows_relvar v.name db)) → HasLater db (with_virtual v db)
  pub one_constraint : (db : Database) (c : NamedConstraint) → IsTyped db → HasLater db (with_constraint c db)

-- ---- the order of tuples

-- one value, or the same causes, of which the same one is named
abbrev pub AreOneOutcome : Outcome Val → Outcome Val → Type 0
AreOneOutcome (Valued v) (Valued w) = v ≡ w
AreOneOutcome (Refused bs) (Refused cs) = ((c : Cause) → Has bs c ↔ Has cs c) × (least bs ≡ least cs)
AreOneOutcome _ _ = ⊥

-- r WHERE p, where the tuples of r are taken as a list has them
abbrev pub restricted_in_turn : (Tuple → Outcome Val) → Heading → List Tuple → Outcome Val
restricted_in_turn p h tuples =
    with_value (gathered (map (λ t. truth_value (p t)) tuples)) (λ truths. of_relation (relation_of h (filter (λ t. is_true (p t)) tuples)))

-- what is applied to the tuples of a relation gives the same in whatever order, and however often, they are taken; what is
-- aggregated, in whatever order, where each is taken once
pub record TupleOrderDoesNotCount : Type 0 where
  pub restricted :
      (p : Tuple → Outcome Val) (r : Relation) (tuples : List Tuple) → IsRelation r → HaveSameMembers r.body tuples
      → AreOneOutcome (restricted_value p r) (restricted_in_turn p r.heading tuples)
  pub extended :
      (types : Outcome (List Attribute)) (fs : List (Tuple → Outcome Val)) (r : Relation) (tuples : List Tuple) → HaveSameMembers r.body tuples
      → AreOneOutcome (extended_value types fs r) (extended_value types fs (relation_view r.heading tuples))
  pub set :
      (types : Outcome (List Attribute)) (fs : List (Tuple → Outcome Val)) (r : Relation) (tuples : List Tuple) → HaveSameMembers r.body tuples
      → AreOneOutcome (extended_by_settings types fs r) (extended_by_settings types fs (relation_view r.heading tuples))
  -- COUNT, SUM, MAX and MIN of values, each as often as it comes
  pub values : (a : Agg) (vs ws : List Val) → IsPermutation vs ws → aggregate a vs ≡ aggregate a ws
  pub aggregated :
      (a : Agg) (f : Tuple → Outcome Val) (r : Relation) (tuples : List Tuple) → IsPermutation r.body tuples
      → AreOneOutcome (aggregated_value a f r) (aggregated_value a f (relation_view r.heading tuples))
  -- SUMMARIZE: the tuples of the operand, with which those of each group come, and those of PER
  pub summarized :
      (types : Outcome (List Attribute)) (items : List Summand) (r p : Relation) (tuples groups : List Tuple) → IsPermutation r.body tuples
      → HaveSameMembers p.body groups
      → AreOneOutcome (summarized_value types items r p) (summarized_value types items (relation_view r.heading tuples) (relation_view p.heading groups))

-- ---- EXTEND in both spellings

-- settings of attributes that are not there give what ADD gives
abbrev pub NewSettingsExtend : Type 0
NewSettingsExtend =
    (types : Outcome (List Attribute)) (fs : List (Tuple → Outcome Val)) (r : Relation) → IsRelation r
    → ((attributes : List Attribute) → types ≡ Valued attributes → IsTrue (have_no_common attributes r.heading))
    → extended_by_settings types fs r ≡ extended_value types fs r

-- ---- SUMMARIZE BY

-- it is SUMMARIZE PER of the projection of its operand: it has the same value or the same causes and, of an operand that
-- gives attributes names, the same type
pub record SummarizeByIsPerOfTheProjection : Type 0 where
  pub values :
      (w : World) (s : List Tuple) (operand : Tree) (by : Attributes) (items : Summaries)
      → AreOneOutcome (value_of w s (summarize_by operand by items)) (value_of w s (summarize_per operand (postfix operand (project by)) items))
  pub types :
      (scope : Scope) (operand : Tree) (by : Attributes) (items : Summaries) (t : Type') → IsScope scope → GivesNames operand
      → (type_of scope (summarize_by operand by items) ≡ Valued t)
      ↔ (type_of scope (summarize_per operand (postfix operand (project by)) items) ≡ Valued t)
