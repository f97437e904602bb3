-- The checks of a legal database: the keys of its base relvars hold.
use Rattle.std.proofs.Common.{◌≡◌, ◌∙◌, ◌∷◌, ◌++◌, ℕ, Bool, true, false, List, [], Option, Some, None, Result, Ok, Err, ap, refl, sym}
use Rattle.std.specs.Prelude.{◌&&◌, ⊤}
use Rattle.std.specs.List.{AllByRecursion}
use Rattle.std.specs.Option.{option_or}
use Rattle.td_body.specs.model.Bodies.{key_holds}
use Rattle.td_body.proofs.Held.{held_by_membership}
use Rattle.td_catalog.specs.model.Database.{BaseRelvar, Database, with_base}
use Rattle.td_catalog.specs.model.TypedDatabases.{IsTypedBase}
use Rattle.td_engine.specs.model.Legality.{IsRuledBase, IsLegal, KeysHold}
use Rattle.td_engine.specs.code.Carried.{Changes, Passes}
use Rattle.td_engine.specs.model.Checks.{base_check, database_check, derived_check, first_refusal, keys_hold, refusal_unless_passed}
use Rattle.td_engine.specs.model.Machine.{Accepted, Denied, checked_effect, ok_text, unless_refused}
use Rattle.td_engine.specs.model.Refusals.{Refusal, by_key}
use Rattle.td_engine.specs.declared.refusal.Failure.{Failure}
use Rattle.td_engine.specs.declared.refusal.Failure.TheVariants as failures
use Rattle.td_tree.specs.model.Outcomes.{Valued}
use Rattle.td_types.specs.model.TypeLists.{DeclaredType}
use Rattle.td_value.specs.model.Values.{Relation, IsRelation}

both_true : (a b : Bool) → (a && b) ≡ true → (a ≡ true) × (b ≡ true)
both_true true b h = (refl, h)
both_true false b h = absurd (cc)

pub all_keys_hold : (keys : List (List (List ℕ))) (r : Relation) → IsRelation r → KeysHold keys r.body → keys_hold keys r.body ≡ true
all_keys_hold [] r is h = refl
all_keys_hold (key ∷ keys) r is h = rw ((held_by_membership key r is).1 h.0, all_keys_hold keys r is h.1) refl

-- keys that pass the test hold
pub keys_are_held : (keys : List (List (List ℕ))) (r : Relation) → IsRelation r → keys_hold keys r.body ≡ true → KeysHold keys r.body
keys_are_held [] r is h = tt
keys_are_held (key ∷ keys) r is h =
    let parts = both_true (key_holds key r.body) (keys_hold keys r.body) h in
    ((held_by_membership key r is).0 parts.0, keys_are_held keys r is parts.1)

-- so do those of all base relvars
all_bases_hold : (types : List DeclaredType) (bases : List BaseRelvar) → AllByRecursion (IsTypedBase types) bases → AllByRecursion (IsRuledBase types) bases
    → first_refusal base_check bases ≡ None
all_bases_hold types [] h g = refl
all_bases_hold types (r ∷ rs) h g =
    ap (λ b. option_or (refusal_unless_passed (by_key r.name) (Valued b)) (first_refusal base_check rs)) (all_keys_hold r.keys r.relation h.0.relation g.0.hold)
    ∙ all_bases_hold types rs h.1 g.1

pub bases_hold : (db : Database) → IsLegal db → first_refusal base_check db.bases ≡ None
bases_hold db legal = all_bases_hold db.types db.bases legal.typed.bases legal.bases

-- ---- a database whose base relvars pass

pub held_check : (db : Database) → first_refusal base_check db.bases ≡ None → database_check db ≡ derived_check db
held_check db held = ap (λ o. option_or o (derived_check db)) held

pub settled : (db : Database) → first_refusal base_check db.bases ≡ None → derived_check db ≡ None → checked_effect db ≡ Accepted db ok_text
settled db held none = ap (λ o. unless_refused o db) (held_check db held ∙ none)

pub unsettled : (db : Database) (f : Failure) → first_refusal base_check db.bases ≡ None → Passes (Err f) (derived_check db) → Changes db (Err f) (checked_effect db)
unsettled db (failures.Refused r) held is = ap (λ o. unless_refused o db) (held_check db held ∙ is)
unsettled db failures.Memory held is = tt

pub settled_or : (db : Database) (done : Result ⊤ Failure) → first_refusal base_check db.bases ≡ None → Passes done (derived_check db) → Changes db done (checked_effect db)
settled_or db (Ok u) held is = settled db held is
settled_or db (Err f) held is = unsettled db f held is

-- a new base relvar of which a key does not hold
refused_behind : {A : Type 0} (check : A → Option Refusal) (xs : List A) (x : A) (o : Option Refusal) (r : Refusal) → first_refusal check xs ≡ None → check x ≡ Some r
    → option_or (first_refusal check (xs ++ (x ∷ []))) o ≡ Some r
refused_behind check [] x o r none is = ap (λ p. option_or (option_or p None) o) is
refused_behind check (y ∷ ys) x o r none is = by_check (check y) refl (λ n. refused_behind check ys x o r n is)
  where
    by_check : (p : Option Refusal) → check y ≡ p
        → (first_refusal check ys ≡ None → option_or (first_refusal check (ys ++ (x ∷ []))) o ≡ Some r)
        → option_or (option_or (check y) (first_refusal check (ys ++ (x ∷ [])))) o ≡ Some r
    by_check None e rest =
        ap (λ p. option_or (option_or p (first_refusal check (ys ++ (x ∷ [])))) o) e ∙ rest (ap (λ p. option_or p (first_refusal check ys)) (sym e) ∙ none)
    by_check (Some q) e rest = let no : Some q ≡ None = ap (λ p. option_or p (first_refusal check ys)) (sym e) ∙ none in absurd (cc)

pub broken_base : (db : Database) (r : BaseRelvar) → first_refusal base_check db.bases ≡ None → keys_hold r.keys r.relation.body ≡ false
    → checked_effect (with_base r db) ≡ Denied (by_key r.name)
broken_base db r held broken =
    ap (λ o. unless_refused o (with_base r db))
    (refused_behind base_check db.bases r (derived_check (with_base r db)) (by_key r.name) held (ap (λ b. refusal_unless_passed (by_key r.name) (Valued b)) broken))

-- one of which they do
passed_behind : {A : Type 0} (check : A → Option Refusal) (xs : List A) (x : A) → first_refusal check xs ≡ None → check x ≡ None → first_refusal check (xs ++ (x ∷ [])) ≡ None
passed_behind check [] x none is = ap (λ p. option_or p None) is
passed_behind check (y ∷ ys) x none is = by_check (check y) refl (λ n. passed_behind check ys x n is)
  where
    by_check : (p : Option Refusal) → check y ≡ p → (first_refusal check ys ≡ None → first_refusal check (ys ++ (x ∷ [])) ≡ None)
        → option_or (check y) (first_refusal check (ys ++ (x ∷ []))) ≡ None
    by_check None e rest = ap (λ p. option_or p (first_refusal check (ys ++ (x ∷ [])))) e ∙ rest (ap (λ p. option_or p (first_refusal check ys)) (sym e) ∙ none)
    by_check (Some q) e rest = let no : Some q ≡ None = ap (λ p. option_or p (first_refusal check ys)) (sym e) ∙ none in absurd (cc)

pub held_with_base : (db : Database) (r : BaseRelvar) → first_refusal base_check db.bases ≡ None → keys_hold r.keys r.relation.body ≡ true
    → first_refusal base_check (with_base r db).bases ≡ None
held_with_base db r held hold = passed_behind base_check db.bases r held (ap (λ b. refusal_unless_passed (by_key r.name) (Valued b)) hold)
