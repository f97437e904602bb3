-- Plans of constraints that are kept: of none, with one more, and where base relvars hold other relations.
use Rattle.std.proofs.Common.{◌≡◌, ◌∙◌, ◌∷◌, ◌++◌, ◌<◌, ◌⊎◌, inl, inr, ℕ, zero, suc, List, [], Option, Some, None, ap, arith, length, map, refl, slice_set, subst, sym}
use Rattle.std.specs.List.{AllByRecursion, slice_get}
use Rattle.td_catalog.specs.model.Database.{BaseRelvar, Database, NamedConstraint, base_named, constraint_names, database_scope, known_base, known_virtual}
use Rattle.td_check.specs.model.Scopes.{KnownRelvar, Scope}
use Rattle.td_check.specs.declared.scope.Kind.TheVariants as kinds
use Rattle.td_engine.proofs.law_lemmas.AssignedBases.{assigned_heading, given_none, given_some}
use Rattle.td_engine.proofs.law_lemmas.OrderedAssigned.{each_found}
use Rattle.td_engine.specs.model.Assignments.{Given, given_to, with_assigned, with_all_assigned}
use Rattle.td_engine.specs.code.ConstraintPlans.{AreKeptPlans, IsPlanIn}
use Rattle.td_engine.specs.code.AssignedRelations.{AreAssigned}
use Rattle.td_engine.specs.model.Legality.{IsLegal}
use Rattle.td_plan.specs.code.PlanViews.{PlanValue, plan_view}
use Rattle.td_plan.specs.code.PlansOf.{IsPlanIfTyped}
use Rattle.td_types.specs.model.Types.{Heading}
use Rattle.td_value.specs.model.Values.{Relation}

-- ---- places

-- none is kept
pub none_kept : (db : Database) → AreKeptPlans db []
none_kept db = record { each = λ place plan c at there. absurd (cc) }

-- a place more
pushed : (plans : List (Option PlanValue)) (place : ℕ) (plan : PlanValue) → slice_get (plans ++ (None ∷ [])) place ≡ Some (Some plan)
    → slice_get plans place ≡ Some (Some plan)
pushed [] zero plan at = absurd (cc)
pushed [] (suc place) plan at = absurd (cc)
pushed (p ∷ plans) zero plan at = at
pushed (p ∷ plans) (suc place) plan at = pushed plans place plan at

pub place_more : (db : Database) (plans : List (Option PlanValue)) → AreKeptPlans db plans → AreKeptPlans db (plans ++ (None ∷ []))
place_more db plans kept = record { each = λ place plan c at there. kept.each place plan c (pushed plans place plan at) there }

-- a plan more
put_there : (plans : List (Option PlanValue)) (k place : ℕ) (made plan : PlanValue) → slice_get (slice_set plans k (Some made)) place ≡ Some (Some plan)
    → ((place ≡ k) × (made ≡ plan)) ⊎ (slice_get plans place ≡ Some (Some plan))
put_there [] k place made plan at = absurd (cc)
put_there (p ∷ plans) zero zero made plan at = inl (refl, cc)
put_there (p ∷ plans) zero (suc place) made plan at = inr at
put_there (p ∷ plans) (suc k) zero made plan at = inr at
put_there (p ∷ plans) (suc k) (suc place) made plan at = behind (put_there plans k place made plan at)
  where
    behind : ((place ≡ k) × (made ≡ plan)) ⊎ (slice_get plans place ≡ Some (Some plan))
        → ((suc place ≡ suc k) × (made ≡ plan)) ⊎ (slice_get plans place ≡ Some (Some plan))
    behind (inl is) = inl (ap suc is.0, is.1)
    behind (inr is) = inr is

pub plan_more : (db : Database) (plans : List (Option PlanValue)) (k : ℕ) (made : PlanValue)
    → ((c : NamedConstraint) → slice_get db.constraints k ≡ Some c → IsPlanIn db c.tree made) → AreKeptPlans db plans
    → AreKeptPlans db (slice_set plans k (Some made))
plan_more db plans k made stands kept =
    record { each = λ place plan c at there. by_place place plan c there (put_there plans k place made plan at) }
  where
    by_place : (place : ℕ) (plan : PlanValue) (c : NamedConstraint) → slice_get db.constraints place ≡ Some c
        → ((place ≡ k) × (made ≡ plan)) ⊎ (slice_get plans place ≡ Some (Some plan)) → IsPlanIn db c.tree plan
    by_place place plan c there (inl is) = subst (IsPlanIn db c.tree) is.1 (stands c (subst (λ i. slice_get db.constraints i ≡ Some c) is.0 there))
    by_place place plan c there (inr at) = kept.each place plan c at there

-- ---- other relations

module _ (db : Database) (given : Given) (legal : IsLegal db) (all_assigned : AreAssigned db given) where
  abbrev with_heading : List ℕ → Heading → KnownRelvar
  with_heading n h = record { name = n; kind = kinds.Base; heading = h }

  known_so : (b : BaseRelvar) → base_named b.name db ≡ Some b → known_base (with_assigned given b) ≡ known_base b
  known_so b found = by_assigned (given_to b.name given) refl
    where
      by_assigned : (o : Option Relation) → given_to b.name given ≡ o → known_base (with_assigned given b) ≡ known_base b
      by_assigned None k = ap known_base (given_none given b k)
      by_assigned (Some q) k = ap known_base (given_some given b q k) ∙ ap (with_heading b.name) (assigned_heading db given b.name q b all_assigned k found)

  all_known : (bs : List BaseRelvar) → AllByRecursion (λ (b : BaseRelvar). base_named b.name db ≡ Some b) bs
      → map known_base (map (with_assigned given) bs) ≡ map known_base bs
  all_known [] found = refl
  all_known (b ∷ bs) found = ap (λ r. r ∷ map known_base (map (with_assigned given) bs)) (known_so b found.0) ∙ ap (λ rs. known_base b ∷ rs) (all_known bs found.1)

  -- the same is known where targets hold what they were given
  pub scope_stays : database_scope (with_all_assigned given db) ≡ database_scope db
  scope_stays =
      let with_known : List KnownRelvar → Scope =
      λ rs. record { types = db.types; relvars = rs ++ map known_virtual db.virtuals; constraints = constraint_names db; entered = [] } in
      ap with_known (all_known db.bases (each_found db given legal.typed))

  pub kept_after : (plans : List (Option PlanValue)) → AreKeptPlans db plans → AreKeptPlans (with_all_assigned given db) plans
  kept_after plans kept =
      record {
        each = λ place plan c at there.
            record { stands = subst (λ s. IsPlanIfTyped s (plan_view plan) c.tree) (sym scope_stays) (kept.each place plan c at there).stands };
      }

  pub kept_before : (plans : List (Option PlanValue)) → AreKeptPlans (with_all_assigned given db) plans → AreKeptPlans db plans
  kept_before plans kept =
      record {
        each = λ place plan c at there.
            record { stands = subst (λ s. IsPlanIfTyped s (plan_view plan) c.tree) scope_stays (kept.each place plan c at there).stands };
      }
