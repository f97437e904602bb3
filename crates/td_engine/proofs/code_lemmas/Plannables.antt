-- Expressions that may be valued by a plan, since they stand in a legal database or in a statement that meets its rules.
use Rattle.std.proofs.Common.{◌≡◌, ◌∙◌, ◌∷◌, ◌++◌, ℕ, zero, suc, Bool, true, false, List, [], Option, Some, None, ap, map, refl}
use Rattle.std.specs.List.{slice_get}
use Rattle.td_catalog.specs.model.Database.{Database, NamedConstraint, VirtualRelvar, database_scope, known_base, known_virtual}
use Rattle.td_catalog.specs.model.TypedDatabases.{IsTyped, IsTypedConstraint}
use Rattle.td_check.specs.model.OperatorTypes.{known_or}
use Rattle.td_check.specs.model.Scopes.{KnownRelvar, relvar_in}
use Rattle.td_check.specs.model.StatementTypes.{type_if_given}
use Rattle.td_check.specs.model.StaticTypes.{type_of}
use Rattle.td_engine.proofs.law_lemmas.Admitted.{both_asked}
use Rattle.td_engine.proofs.law_lemmas.EachOf.{of_place}
use Rattle.td_engine.proofs.law_lemmas.GivenValues.{database_gives}
use Rattle.td_engine.specs.code.Carried.{IsAdmitted}
use Rattle.td_engine.specs.model.Legality.{IsLegal}
use Rattle.td_engine.specs.code.Plannable.{IsPlannable, IsPlannableIf}
use Rattle.td_tree.specs.declared.cause.Cause.TheVariants as causes
use Rattle.td_tree.specs.model.Outcomes.{Valued, with_value}
use Rattle.td_tree.specs.model.Trees.{AttributeTrees, Text, Tree, define_base, name, write}
use Rattle.td_types.proofs.HeadingLaws.{same_name-itself}
use Rattle.td_types.proofs.OutcomeLaws.{value_of_with, values_of_both}
use Rattle.td_types.specs.model.TypeLists.{heading_meant}
use Rattle.td_types.specs.model.Types.{Type', boolean, pack, relation, same_name}

-- ---- what a scope knows

-- there is a relvar of the name
abbrev KnowsIn : Text → List KnownRelvar → Type 0
KnowsIn n rs = (r : KnownRelvar) × (relvar_in n rs ≡ Some r)

behind_one : (n : Text) (r : KnownRelvar) (rs : List KnownRelvar) → KnowsIn n rs → KnowsIn n (r ∷ rs)
behind_one n r rs known = by_test (same_name r.name n) refl
  where
    by_test : (b : Bool) → same_name r.name n ≡ b → KnowsIn n (r ∷ rs)
    by_test true is = (r, rw is refl)
    by_test false is = (known.0, rw is known.1)

behind : (n : Text) (before rs : List KnownRelvar) → KnowsIn n rs → KnowsIn n (before ++ rs)
behind n [] rs known = known
behind n (r ∷ before) rs known = behind_one n r (before ++ rs) (behind n before rs known)

virtual_known : (vs : List VirtualRelvar) (place : ℕ) (v : VirtualRelvar) → slice_get vs place ≡ Some v → KnowsIn v.name (map known_virtual vs)
virtual_known [] place v at = absurd (cc)
virtual_known (u ∷ vs) zero v at =
    let same : u ≡ v = cc in
    let named : same_name u.name v.name ≡ true = ap (λ (w : VirtualRelvar). same_name w.name v.name) same ∙ same_name-itself v.name in
    (known_virtual u, rw named refl)
virtual_known (u ∷ vs) (suc place) v at = behind_one v.name (known_virtual u) (map known_virtual vs) (virtual_known vs place v at)

-- ---- what stands in a statement

-- what WRITE prints
pub write_plannable : (db : Database) (e : Tree) → IsLegal db → IsAdmitted db (write e) → IsPlannable db e
write_plannable db e legal is =
    let found = value_of_with (type_of (database_scope db) e) (λ t. Valued tt) tt is.checked in
    record {
      gives = database_gives db legal.typed;
      typed = (found.0, found.1);
    }

-- what INIT gives
init_typed : (db : Database) (init : Option Tree) (t : Option Type') → IsLegal db → type_if_given (database_scope db) init ≡ Valued t
    → IsPlannableIf db init
init_typed db None t legal typed = tt
init_typed db (Some e) t legal typed =
    let found = value_of_with (type_of (database_scope db) e) _ t typed in
    record {
      gives = database_gives db legal.typed;
      typed = (found.0, found.1);
    }

pub init_plannable : (db : Database) (n : Text) (h : AttributeTrees) (init : Option Tree) (keys : List (List Text)) → IsLegal db
    → IsAdmitted db (define_base n h init keys) → IsPlannableIf db init
init_plannable db n h init keys legal is =
    let parts = values_of_both (heading_meant db.types h) (type_if_given (database_scope db) init) _ tt (both_asked _ _ is.checked).1 in
    init_typed db init parts.1 legal parts.3

-- ---- what stands in a database

module _ (db : Database) (is_typed : IsTyped db) where
  -- a constraint
  pub constraint_plannable : (place : ℕ) (c : NamedConstraint) → slice_get db.constraints place ≡ Some c → IsPlannable db c.tree
  constraint_plannable place c at =
      record {
        gives = database_gives db is_typed;
        typed = (boolean, of_place (IsTypedConstraint (database_scope db)) db.constraints place c is_typed.constraints at);
      }

  -- the name of a virtual relvar
  pub virtual_plannable : (place : ℕ) (v : VirtualRelvar) → slice_get db.virtuals place ≡ Some v → IsPlannable db (name v.name)
  virtual_plannable place v at =
      let known = behind v.name (map known_base db.bases) (map known_virtual db.virtuals) (virtual_known db.virtuals place v at) in
      record {
        gives = database_gives db is_typed;
        typed = (relation (pack known.0.heading), ap (λ o. with_value (known_or causes.NameUnknown o) (λ r. Valued (relation (pack r.heading)))) known.1);
      }
