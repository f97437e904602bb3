-- What base relvars are given leaves the names of their keys in name order.
use Rattle.std.proofs.Common.{◌≡◌, ◌∷◌, ℕ, zero, suc, List, [], Option, Some, None, map, refl, subst, sym}
use Rattle.std.specs.List.{AllByRecursion, slice_get}
use Rattle.td_catalog.specs.model.Database.{BaseRelvar, Database, base_named, base_relvar}
use Rattle.td_catalog.specs.model.TypedDatabases.{IsTyped}
use Rattle.td_engine.proofs.law_lemmas.EachOf.{all_both, all_mapped}
use Rattle.td_engine.proofs.law_lemmas.AssignedBases.{found, assigned_heading}
use Rattle.td_engine.specs.model.Assignments.{Given, given_to, with_assigned}
use Rattle.td_engine.specs.code.AssignedRelations.{AreAssigned}
use Rattle.td_engine.specs.model.Legality.{AreOrdered}
use Rattle.td_value.specs.model.Values.{Relation}

-- what holds at each place holds of each
each_at : {A : Type 0} (P : A → Type 0) (xs : List A) → ((i : ℕ) (x : A) → slice_get xs i ≡ Some x → P x) → AllByRecursion P xs
each_at P [] f = tt
each_at P (x ∷ xs) f = (f zero x refl, each_at P xs (λ i y is. f (suc i) y is))

-- each base relvar of a typed database is found by its name
pub each_found : (db : Database) (given : Given) → IsTyped db → AllByRecursion (λ (b : BaseRelvar). base_named b.name db ≡ Some b) db.bases
each_found db given is_typed = each_at (λ (b : BaseRelvar). base_named b.name db ≡ Some b) db.bases (λ i b is. found db given is_typed i b is)

abbrev IsOrdered : BaseRelvar → Type 0
IsOrdered b = AreOrdered b.relation.heading b.keys

module _ (db : Database) (given : Given) (is_typed : IsTyped db) (all_assigned : AreAssigned db given) where
  abbrev IsFound : BaseRelvar → Type 0
  IsFound b = base_named b.name db ≡ Some b

  assigned_ordered : (b : BaseRelvar) → IsOrdered b × IsFound b → IsOrdered (with_assigned given b)
  assigned_ordered b is = by_assigned (given_to b.name given) (λ q given_is. assigned_heading db given b.name q b all_assigned given_is is.1)
    where
      by_assigned : (o : Option Relation) → ((q : Relation) → o ≡ Some q → q.heading ≡ b.relation.heading)
          → IsOrdered (elim o as (λ _. BaseRelvar) [ Some q ↦ base_relvar b.name b.keys q | None ↦ b ])
      by_assigned (Some q) headed = subst (λ h. AreOrdered h b.keys) (sym (headed q refl)) is.0
      by_assigned None headed = is.0

  pub all_assigned_ordered : AllByRecursion IsOrdered db.bases → AllByRecursion IsOrdered (map (with_assigned given) db.bases)
  all_assigned_ordered ordered =
      all_mapped (λ b. IsOrdered b × IsFound b) IsOrdered (with_assigned given) assigned_ordered db.bases
      (all_both IsOrdered IsFound db.bases ordered (each_found db given is_typed))
