-- The base relvars of a typed database.
use Rattle.std.proofs.Common.{◌≡◌, ℕ, Bool, true, false, List, [], ◌∷◌, Some, refl, subst}
use Rattle.std.specs.List.{AllByRecursion}
use Rattle.td_catalog.specs.model.Database.{BaseRelvar, Database, base_among, base_named}
use Rattle.td_catalog.specs.model.TypedDatabases.{IsTyped, IsTypedBase}
use Rattle.td_types.specs.model.TypeLists.{DeclaredType}
use Rattle.td_types.specs.model.Types.{same_name}

some_is : (b c : BaseRelvar) → Some b ≡ Some c → b ≡ c
some_is b c e = cc

base_at : (ds : List DeclaredType) (n : List ℕ) (bs : List BaseRelvar) (b : BaseRelvar) → AllByRecursion (IsTypedBase ds) bs → base_among n bs ≡ Some b → IsTypedBase ds b
base_at ds n [] b h e = absurd (cc)
base_at ds n (c ∷ bs) b h e = by_test (same_name c.name n) refl (base_at ds n bs b h.1)
  where
    by_test : (t : Bool) → same_name c.name n ≡ t → (base_among n bs ≡ Some b → IsTypedBase ds b) → IsTypedBase ds b
    by_test true is rest = subst (IsTypedBase ds) (some_is c b (rw is at e)) h.0
    by_test false is rest = rest (rw is at e)

-- each is typed
pub is_typed_base : (db : Database) (n : List ℕ) (b : BaseRelvar) → IsTyped db → base_named n db ≡ Some b → IsTypedBase db.types b
is_typed_base db n b typed e = base_at db.types n db.bases b typed.bases e
