-- The first entries of a typed database are a typed database.
use Rattle.std.proofs.Common.{◌≡◌, ◌∙◌, ◌∷◌, ◌++◌, ℕ, false, List, [], append-nil, ap, map, not, refl, sym}
use Rattle.std.specs.List.{AllByRecursion}
use Rattle.td_catalog.specs.model.Database.{BaseRelvar, Database, NamedConstraint, VirtualRelvar, constraint_names, database_scope, relvar_names, with_virtuals}
use Rattle.td_catalog.specs.model.TypedDatabases.{IsTyped, IsTypedBase, IsTypedConstraint, IsTypedVirtual}
use Rattle.td_catalog.specs.model.WrittenDefinitions.{ConstraintIsWritten}
use Rattle.td_catalog.proofs.TypedChanges.{base_relvars_keep, constraints_keep, typed_empty, types_keep, virtual_relvars_keep}
use Rattle.td_check.specs.model.Scopes.{Scope}
use Rattle.td_check.specs.model.StaticTypes.{type_of}
use Rattle.td_check.proofs.StaticLaws.{more_changes_nothing}
use Rattle.td_engine.proofs.law_lemmas.RebuiltLists.{BeginsWith, all_at, all_behind, all_first, all_unmapped, new_name}
use Rattle.td_eval.proofs.law_lemmas.DistinctNames.{distinct_first}
use Rattle.td_eval.proofs.law_lemmas.KnownRelvars.{of_front}
use Rattle.td_eval.proofs.code_lemmas.WorldParts.{virtual_name}
use Rattle.td_tree.specs.model.Names.{IsName}
use Rattle.td_tree.specs.model.Outcomes.{Valued}
use Rattle.td_tree.specs.model.Trees.{Tree}
use Rattle.td_tree.specs.model.WrittenTrees.{IsWritten}
use Rattle.td_types.specs.model.Headings.{has_name}
use Rattle.td_types.specs.model.TypeLists.{DeclaredType}
use Rattle.td_types.specs.model.Types.{Type', boolean, pack, relation}

-- a database by its entries
abbrev pub database_of : List DeclaredType → List BaseRelvar → List VirtualRelvar → List NamedConstraint → Database
database_of types bases virtuals constraints = record { types = types; bases = bases; virtuals = virtuals; constraints = constraints }

-- each list of the whole begins with that of the part
pub record IsPart (part whole : Database) : Type 0 where
  pub types : BeginsWith whole.types part.types
  pub bases : BeginsWith whole.bases part.bases
  pub virtuals : BeginsWith whole.virtuals part.virtuals
  pub constraints : BeginsWith whole.constraints part.constraints

pub all_of : {A : Type 0} (xs : List A) → BeginsWith xs xs
all_of xs = ([], sym (append-nil xs))

abbrev pub base_name : BaseRelvar → List ℕ
base_name r = r.name

abbrev pub constraint_name : NamedConstraint → List ℕ
constraint_name c = c.name

-- an expression has the same type where the same types and relvars are known, whichever constraints are
same_type : (first second : Scope) (e : Tree) (t : Type') → second.types ≡ first.types → second.relvars ≡ first.relvars → second.entered ≡ first.entered
    → type_of first e ≡ Valued t → type_of second e ≡ Valued t
same_type first second e t types relvars entered is =
    (more_changes_nothing first second e t
    (record {
      types = ([], types ∙ sym (append-nil first.types));
      relvars = ([], relvars ∙ sym (append-nil first.relvars));
      entered = entered;
    }) is).0

module _ (db : Database) (is_typed : IsTyped db) where
  -- ---- names

  abbrev pub base_names : List (List ℕ)
  base_names = map base_name db.bases

  bases_named : AllByRecursion (λ (r : BaseRelvar). IsName r.name) db.bases
  bases_named = all_unmapped IsName base_name db.bases (all_first IsName (relvar_names db) base_names (map virtual_name db.virtuals, refl) is_typed.named)

  virtuals_named : AllByRecursion (λ (v : VirtualRelvar). IsName v.name) db.virtuals
  virtuals_named = all_unmapped IsName virtual_name db.virtuals (all_behind IsName base_names (map virtual_name db.virtuals) is_typed.named)

  conditions_named : AllByRecursion (λ (c : NamedConstraint). IsName c.name) db.constraints
  conditions_named = all_unmapped IsName constraint_name db.constraints is_typed.constraints_named

  -- a base relvar, a virtual relvar and a constraint have names that no earlier entry has
  pub base_is_new : (front rest : List BaseRelvar) (r : BaseRelvar) → db.bases ≡ front ++ (r ∷ rest)
      → has_name r.name (relvar_names (database_of db.types front [] [])) ≡ false
  base_is_new front rest r e =
      ap (has_name r.name) (append-nil (map base_name front))
      ∙ new_name base_name [] db.bases front rest r e (distinct_first base_names (map virtual_name db.virtuals) is_typed.distinct)

  pub virtual_is_new : (front rest : List VirtualRelvar) (v : VirtualRelvar) → db.virtuals ≡ front ++ (v ∷ rest)
      → has_name v.name (relvar_names (database_of db.types db.bases front [])) ≡ false
  virtual_is_new front rest v e = new_name virtual_name base_names db.virtuals front rest v e is_typed.distinct

  pub constraint_is_new : (front rest : List NamedConstraint) (c : NamedConstraint) → db.constraints ≡ front ++ (c ∷ rest)
      → has_name c.name (constraint_names (database_of db.types db.bases db.virtuals front)) ≡ false
  constraint_is_new front rest c e = new_name constraint_name [] db.constraints front rest c e is_typed.constraints_distinct

  -- ---- what virtual relvars and constraints are where the earlier entries alone are known

  pub virtual_there : (front rest : List VirtualRelvar) (v : VirtualRelvar) → db.virtuals ≡ front ++ (v ∷ rest)
      → IsTypedVirtual (database_scope (database_of db.types db.bases front [])) v
  virtual_there front rest v e =
      let is = is_typed.virtuals front rest v e in
      record {
        known = is.known;
        typed =
            same_type (database_scope (with_virtuals front db)) (database_scope (database_of db.types db.bases front [])) v.tree (relation (pack v.heading))
            refl refl refl is.typed;
      }

  pub constraint_there : (front rest : List NamedConstraint) (c : NamedConstraint) → db.constraints ≡ front ++ (c ∷ rest)
      → IsTypedConstraint (database_scope (database_of db.types db.bases db.virtuals front)) c
  constraint_there front rest c e =
      same_type (database_scope db) (database_scope (database_of db.types db.bases db.virtuals front)) c.tree boolean refl refl refl
      (all_at (IsTypedConstraint (database_scope db)) db.constraints front rest c e is_typed.constraints)

  -- ---- parts

  pub typed_types : (front : List DeclaredType) → BeginsWith db.types front → IsTyped (database_of front [] [] [])
  typed_types front begins =
      of_front (λ ds. IsTyped (database_of ds [] [] [])) db.types typed_empty
      (λ ds rest d e h. types_keep (database_of ds [] [] []) d h (is_typed.declared ds rest d e) (is_typed.constrained ds rest d e)
      (all_at ConstraintIsWritten db.types ds rest d e is_typed.written.constraints))
      front begins.0 begins.1

  pub typed_bases : (front : List BaseRelvar) → BeginsWith db.bases front → IsTyped (database_of db.types front [] [])
  typed_bases front begins =
      of_front (λ rs. IsTyped (database_of db.types rs [] [])) db.bases (typed_types db.types (all_of db.types))
      (λ rs rest r e h.
      base_relvars_keep (database_of db.types rs [] []) r h (all_at (λ (b : BaseRelvar). IsName b.name) db.bases rs rest r e bases_named)
      (ap not (base_is_new rs rest r e)) (all_at (IsTypedBase db.types) db.bases rs rest r e is_typed.bases))
      front begins.0 begins.1

  pub typed_virtuals : (front : List VirtualRelvar) → BeginsWith db.virtuals front → IsTyped (database_of db.types db.bases front [])
  typed_virtuals front begins =
      of_front (λ vs. IsTyped (database_of db.types db.bases vs [])) db.virtuals (typed_bases db.bases (all_of db.bases))
      (λ vs rest v e h.
      virtual_relvars_keep (database_of db.types db.bases vs []) v h (all_at (λ (u : VirtualRelvar). IsName u.name) db.virtuals vs rest v e virtuals_named)
      (ap not (virtual_is_new vs rest v e)) (virtual_there vs rest v e)
      (all_at (λ (u : VirtualRelvar). IsWritten u.tree) db.virtuals vs rest v e is_typed.written.virtuals))
      front begins.0 begins.1

  pub typed_constraints : (front : List NamedConstraint) → BeginsWith db.constraints front → IsTyped (database_of db.types db.bases db.virtuals front)
  typed_constraints front begins =
      of_front (λ cs. IsTyped (database_of db.types db.bases db.virtuals cs)) db.constraints (typed_virtuals db.virtuals (all_of db.virtuals))
      (λ cs rest c e h.
      constraints_keep (database_of db.types db.bases db.virtuals cs) c h
      (all_at (λ (d : NamedConstraint). IsName d.name) db.constraints cs rest c e conditions_named) (ap not (constraint_is_new cs rest c e))
      (constraint_there cs rest c e))
      front begins.0 begins.1
