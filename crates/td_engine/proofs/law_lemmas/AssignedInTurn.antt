-- What targets are given in turn, and the checks of base relvars with it.
use Rattle.std.proofs.Common.{◌≡◌, ◌∙◌, ◌∷◌, ◌+◌, ◌<◌, ℕ, zero, suc, List, [], Some, None, Ok, Err, IfSome, ap, drop, get_or, length, map, subst, sym}
use Rattle.std.specs.List.{slice_get}
use Rattle.std.specs.Option.{option_or}
use Rattle.std.proofs.lemmas.Option.{slice_get-get_or}
use Rattle.td_catalog.specs.model.Database.{BaseRelvar, Database, base_relvar}
use Rattle.td_engine.proofs.law_lemmas.Admitted.{refused_on}
use Rattle.td_engine.proofs.law_lemmas.InOrder.{IsLeft, drop_next, passed_next, refused_at}
use Rattle.td_engine.specs.model.Assignments.{Given, given_by, with_assignment, with_assigned}
use Rattle.td_engine.specs.code.Carried.{Changes, Passes, refusal_view}
use Rattle.td_engine.specs.model.Checks.{base_check, derived_check, first_refusal}
use Rattle.td_engine.specs.model.Machine.{checked_effect, unless_refused}
use Rattle.td_engine.specs.declared.refusal.Failure.{Failure}
use Rattle.td_engine.specs.declared.refusal.Failure.TheVariants as failures
use Rattle.td_tree.specs.declared.fault.Fault.{Fault}
use Rattle.td_tree.specs.declared.statement.Assignment.{Assignment}
use Rattle.td_tree.specs.model.Outcomes.{Answers}
use Rattle.td_tree.specs.code.TreeViews.{assignment_view}
use Rattle.td_value.specs.model.Values.{relation_view}

-- ---- assignments

-- an answer that is refused is the same of whatever would be shown
abbrev as_given : Given → Given
as_given given = given

-- what is refused at one of the assignments is refused
pub given_refused : (db : Database) (so_far : Given) (xs : List Assignment) (i : ℕ) (x : Assignment) (f : Fault) → i < length xs → x ≡ get_or xs i x
    → given_by db [] (map assignment_view xs) ≡ given_by db so_far (map assignment_view (drop i xs))
    → Answers as_given (Err f) (with_assignment db so_far (assignment_view x)) → Answers as_given (Err f) (given_by db [] (map assignment_view xs))
given_refused db so_far xs i x f inside is left h =
    let at : slice_get xs i ≡ Some x = slice_get-get_or xs i x inside ∙ ap Some (sym is) in
    subst (Answers as_given (Err f)) (sym (left ∙ ap (λ ys. given_by db so_far (map assignment_view ys)) (drop_next xs i x at)))
    (refused_on as_given as_given f (with_assignment db so_far (assignment_view x)) (λ next. given_by db next (map assignment_view (drop (i + 1) xs))) h)

-- ---- checks

module _ (given : Given) where
  abbrev all_assigned : List BaseRelvar → List BaseRelvar
  all_assigned = map (with_assigned given)

  assigned_at : (bs : List BaseRelvar) (i : ℕ) (r : BaseRelvar) → slice_get bs i ≡ Some r → slice_get (all_assigned bs) i ≡ Some (with_assigned given r)
  assigned_at [] i r e = absurd (cc)
  assigned_at (b ∷ bs) zero r e = let same : b ≡ r = cc in ap (λ z. Some (with_assigned given z)) same
  assigned_at (b ∷ bs) (suc i) r e = assigned_at bs i r e

  -- there is one at each place
  pub one_at : (bs : List BaseRelvar) (i : ℕ) → i < length bs → (r : BaseRelvar) × (slice_get bs i ≡ Some r)
  one_at bs i inside = let none = base_relvar [] [] (relation_view [] []) in (get_or bs i none, slice_get-get_or bs i none inside)

  pub assigned_refused : (bs : List BaseRelvar) (i : ℕ) (f : Failure) → i < length bs → IsLeft base_check (all_assigned bs) i
      → IfSome (slice_get bs i) (λ r. Passes (Err f) (base_check (with_assigned given r))) → Passes (Err f) (first_refusal base_check (all_assigned bs))
  assigned_refused bs i (failures.Refused refusal) inside left h =
      let one = one_at bs i inside in
      let refuses : base_check (with_assigned given one.0) ≡ Some (refusal_view refusal) =
      subst (λ o. IfSome o (λ r. Passes (Err (failures.Refused refusal)) (base_check (with_assigned given r)))) one.1 h in
      refused_at base_check (all_assigned bs) i (with_assigned given one.0) (refusal_view refusal) left (assigned_at bs i one.0 one.1) refuses
  assigned_refused bs i failures.Memory inside left h = tt

  pub assigned_passed : (bs : List BaseRelvar) (i : ℕ) → i < length bs → IsLeft base_check (all_assigned bs) i
      → IfSome (slice_get bs i) (λ r. Passes (Ok tt) (base_check (with_assigned given r))) → IsLeft base_check (all_assigned bs) (i + 1)
  assigned_passed bs i inside left h =
      let one = one_at bs i inside in
      let passes : base_check (with_assigned given one.0) ≡ None = subst (λ o. IfSome o (λ r. Passes (Ok tt) (base_check (with_assigned given r)))) one.1 h in
      passed_next base_check (all_assigned bs) i (with_assigned given one.0) left (assigned_at bs i one.0 one.1) passes

-- a change that the check of a base relvar refuses
pub bases_refused : (new db : Database) (f : Failure) → Passes (Err f) (first_refusal base_check db.bases) → Changes new (Err f) (checked_effect db)
bases_refused new db (failures.Refused refusal) h = ap (λ o. unless_refused (option_or o (derived_check db)) db) h
bases_refused new db failures.Memory h = tt
