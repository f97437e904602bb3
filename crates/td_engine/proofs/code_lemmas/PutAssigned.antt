-- Base relvars that take what they were given in place, one after another.
use Rattle.std.proofs.Common.{◌≡◌, ◌∙◌, ◌∷◌, ℕ, zero, suc, Bool, true, false, List, [], Option, Some, None, Result, ap, refl, subst, sym}
use Rattle.std.specs.Prelude.{IfSome, if◌then◌else◌, ⊤}
use Rattle.std.specs.List.{AllByRecursion, slice_get}
use Rattle.td_algebra.specs.model.Operators.{restriction}
use Rattle.td_catalog.specs.model.Database.{BaseRelvar, Database, base_among, base_named, base_relvar, with_body, with_relation}
use Rattle.td_catalog.specs.model.TypedDatabases.{AreTyped, IsTyped, IsTypedBase}
use Rattle.td_engine.proofs.law_lemmas.AssignedBases.{some_is}
use Rattle.td_engine.specs.model.Assignments.{Given}
use Rattle.td_engine.specs.code.Carried.{Passes}
use Rattle.td_engine.specs.model.Checks.{base_check}
use Rattle.td_engine.specs.code.AssignedRelations.{IsAssigned, assigned_bases}
use Rattle.td_engine.specs.declared.refusal.Failure.{Failure}
use Rattle.td_eval.proofs.code_lemmas.KeepsOperators.{typed_restriction}
use Rattle.td_eval.proofs.code_lemmas.KeepsRelations.{IsTypedRelation, typed_from_value, value_from_typed}
use Rattle.td_types.specs.model.TypeLists.{AreKnown, DeclaredType}
use Rattle.td_types.specs.model.Types.{Heading, pack, same_name}
use Rattle.td_value.specs.model.Values.{Relation, Tuple}

-- ---- what is given

base_at : (ds : List DeclaredType) (n : List ℕ) (bs : List BaseRelvar) (b : BaseRelvar) → AllByRecursion (IsTypedBase ds) bs → base_among n bs ≡ Some b → IsTypedBase ds b
base_at ds n [] b h e = absurd (cc)
base_at ds n (c ∷ bs) b h e = by_test (same_name c.name n) refl (base_at ds n bs b h.1)
  where
    by_test : (t : Bool) → same_name c.name n ≡ t → (base_among n bs ≡ Some b → IsTypedBase ds b) → IsTypedBase ds b
    by_test true is rest = subst (IsTypedBase ds) (some_is c b (rw is at e)) h.0
    by_test false is rest = rest (rw is at e)

-- a base relvar of a typed database
pub is_typed_base : (db : Database) (n : List ℕ) (b : BaseRelvar) → IsTyped db → base_named n db ≡ Some b → IsTypedBase db.types b
is_typed_base db n b typed e = base_at db.types n db.bases b typed.bases e

assigned_typed : (db : Database) (n : List ℕ) (q : Relation) → IsTyped db → IsAssigned db (n, q) → IsTypedRelation db.types q
assigned_typed db n q typed assigned =
    let known = (is_typed_base db n assigned.target typed assigned.named).known in
    typed_from_value db.types q (assigned.relation, (refl, subst (λ (h : Heading). AreKnown db.types (pack h)) (sym assigned.heading) known, assigned.typed))

-- some of its tuples are of their types
pub part_typed : (db : Database) (n : List ℕ) (q : Relation) (p : Tuple → Bool) → IsTyped db → IsAssigned db (n, q) → AreTyped db.types (restriction p q)
part_typed db n q p typed assigned = (value_from_typed db.types (restriction p q) (typed_restriction db.types p q (assigned_typed db n q typed assigned))).1.2

-- ---- the relvar that holds it

pub found_body : (n : List ℕ) (q : Relation) (bs : List BaseRelvar) (r : BaseRelvar) → base_among n bs ≡ Some r
    → base_among n (with_relation n q bs) ≡ Some (base_relvar r.name r.keys q)
found_body n q [] r e = absurd (cc)
found_body n q (b ∷ bs) r e = by_test (same_name b.name n) refl (found_body n q bs r)
  where
    by_test : (t : Bool) → same_name b.name n ≡ t → (base_among n bs ≡ Some r → base_among n (with_relation n q bs) ≡ Some (base_relvar r.name r.keys q))
        → base_among n (if same_name b.name n then base_relvar b.name b.keys q ∷ bs else b ∷ with_relation n q bs) ≡ Some (base_relvar r.name r.keys q)
    by_test true is rest =
        let same : b ≡ r = some_is b r (rw is at e) in
        rw is (rw is (ap (λ (c : BaseRelvar). Some (base_relvar c.name c.keys q)) same))
    by_test false is rest = rw is (rw is (rest (rw is at e)))

-- its keys are asked there
pub checked_there : (done : Result ⊤ Failure) (db there : Database) (n : List ℕ) (q : Relation) → there ≡ with_body n q db
    → IfSome (base_named n there) (λ r. Passes done (base_check r)) → IfSome (base_named n db) (λ r. Passes done (base_check (base_relvar r.name r.keys q)))
checked_there done db there n q is told = by_base (base_named n db) refl
  where
    by_base : (o : Option BaseRelvar) → base_named n db ≡ o → IfSome o (λ r. Passes done (base_check (base_relvar r.name r.keys q)))
    by_base None e = tt
    by_base (Some r) e =
        subst (λ o. IfSome o (λ r. Passes done (base_check r))) (ap (base_named n) is ∙ found_body n q db.bases r e) told

-- the place is still as it was
pub base_assigned_at : (given : Given) (bs : List BaseRelvar) (i : ℕ) → slice_get (assigned_bases given i bs) i ≡ slice_get bs i
base_assigned_at given [] zero = refl
base_assigned_at given [] (suc i) = refl
base_assigned_at given (b ∷ bs) zero = refl
base_assigned_at given (b ∷ bs) (suc i) = base_assigned_at given bs i
