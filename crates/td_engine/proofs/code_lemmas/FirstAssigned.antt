-- What the assignments of a statement give to their targets by changes, first and later.
use Rattle.std.proofs.Common.{◌≡◌, ◌∙◌, ℕ, List, [], Option, Some, None, Result, Ok, Err, ap, option_map, refl, subst, sym}
use Rattle.std.specs.Option.{option_or}
use Rattle.std.specs.Prelude.{IfOk}
use Rattle.td_catalog.specs.model.Database.{BaseRelvar, Database, base_named}
use Rattle.td_check.specs.model.OperatorTypes.{known_or}
use Rattle.td_engine.proofs.law_lemmas.Admitted.{refused_on}
use Rattle.td_engine.proofs.law_lemmas.AssignedBases.{assigned_to}
use Rattle.td_engine.specs.model.Assignments.{Given, current, given_to, target_of, with_assignment, with_given}
use Rattle.td_engine.specs.code.Changes.{IsChangeOf, IsOfHeading, changed_by, assigned_over, given_as}
use Rattle.td_engine.specs.code.AssignedRelations.{AreAssigned, assigned_of}
use Rattle.td_engine.specs.declared.change.Change.{Change}
use Rattle.td_tree.specs.model.Outcomes.{Answers, Only, Outcome, Valued, Refused, with_value}
use Rattle.td_tree.specs.model.Trees.{Assignment}
use Rattle.td_tree.specs.declared.cause.Cause.TheVariants as causes
use Rattle.td_tree.specs.declared.fault.Fault.{Fault}
use Rattle.td_types.specs.model.Types.{Heading}
use Rattle.td_value.specs.model.Values.{Relation}

module _ (db : Database) where
  -- what is given over what a base relvar held
  pub first_given : (a : Assignment) (r : BaseRelvar) (result : Result Change Fault) → base_named (target_of a) db ≡ Some r
      → Answers (λ c. changed_by c r.relation) result (assigned_over db r.relation a) → Answers (given_as db (target_of a)) result (assigned_of db [] a)
  first_given a r result is told =
      subst (λ (o : Option BaseRelvar). Answers (λ (c : Change). elim o as (λ _. Relation) [ Some b ↦ changed_by c b.relation | None ↦ c.add ]) result
      (with_value (known_or causes.NameUnknown (option_map (λ b. b.relation) o)) (λ so_far. assigned_over db so_far a))) (sym is) told

  -- what is given over what was given before
  pub next_given : (a : Assignment) (r : BaseRelvar) (d : Change) (result : Result Change Fault) → base_named (target_of a) db ≡ Some r
      → Answers (λ c. changed_by c r.relation) result (assigned_over db (changed_by d r.relation) a)
      → Answers (given_as db (target_of a)) result (assigned_over db (given_as db (target_of a) d) a)
  next_given a r d result is told =
      subst (λ (o : Option BaseRelvar). Answers (λ (c : Change). elim o as (λ _. Relation) [ Some b ↦ changed_by c b.relation | None ↦ c.add ]) result
      (assigned_over db (elim o as (λ _. Relation) [ Some b ↦ changed_by d b.relation | None ↦ d.add ]) a)) (sym is) told

  pub change_of_base : (n : List ℕ) (r : BaseRelvar) (h : Heading) (result : Result Change Fault) → base_named n db ≡ Some r → r.relation.heading ≡ h
      → IfOk result (IsOfHeading h) → IfOk result (λ c. IsChangeOf db (n, c))
  change_of_base n r h (Ok c) is same of = record { target = r; named = is; headings = (of.0 ∙ sym same, of.1 ∙ sym same) }
  change_of_base n r h (Err f) is same of = tt

  -- a target that is no base relvar
  pub unknown_target : (given : Given) (a : Assignment) → AreAssigned db given → base_named (target_of a) db ≡ None → assigned_of db given a ≡ Refused (Only causes.NameUnknown)
  unknown_target given a all_assigned none = by_given (given_to (target_of a) given) refl
    where
      by_given : (o : Option Relation) → given_to (target_of a) given ≡ o → assigned_of db given a ≡ Refused (Only causes.NameUnknown)
      by_given None e =
          ap (λ q. with_value (known_or causes.NameUnknown (option_or q (option_map (λ r. r.relation) (base_named (target_of a) db)))) (λ so_far. assigned_over db so_far a)) e
          ∙ ap (λ q. with_value (known_or causes.NameUnknown (option_map (λ (r : BaseRelvar). r.relation) q)) (λ so_far. assigned_over db so_far a)) none
      by_given (Some q) e =
          let assigned = assigned_to db given (target_of a) q all_assigned e in
          let clash : None ≡ Some assigned.target = sym none ∙ assigned.named in
          absurd (cc)

  -- a target that was given nothing, and one that was given this
  pub none_given : {X : Type 0} (view : X → Relation) (given : Given) (a : Assignment) (result : Result X Fault) → given_to (target_of a) given ≡ None
      → Answers view result (assigned_of db [] a) → Answers view result (assigned_of db given a)
  none_given view given a result none told =
      subst (λ o. Answers view result (with_value (known_or causes.NameUnknown (option_or o (option_map (λ r. r.relation) (base_named (target_of a) db))))
      (λ so_far. assigned_over db so_far a))) (sym none) told

  pub this_given : {X : Type 0} (view : X → Relation) (given : Given) (a : Assignment) (result : Result X Fault) (q : Relation) → given_to (target_of a) given ≡ Some q
      → Answers view result (assigned_over db q a) → Answers view result (assigned_of db given a)
  this_given view given a result q some told =
      subst (λ o. Answers view result (with_value (known_or causes.NameUnknown (option_or o (option_map (λ r. r.relation) (base_named (target_of a) db))))
      (λ so_far. assigned_over db so_far a))) (sym some) told

  in_turn : {A B C : Type 0} (o : Outcome A) (f : A → Outcome B) (g : B → Outcome C) → with_value (with_value o f) g ≡ with_value o (λ x. with_value (f x) g)
  in_turn (Valued x) f g = refl
  in_turn (Refused cs) f g = refl

  -- it is what the target holds from then on
  pub given_next : (given : Given) (a : Assignment) (q : Relation) → assigned_of db given a ≡ Valued q → with_assignment db given a ≡ Valued (with_given (target_of a) q given)
  given_next given a q is =
      sym (in_turn (current db given (target_of a)) (λ so_far. assigned_over db so_far a) (λ r. Valued (with_given (target_of a) r given)))
      ∙ ap (λ o. with_value o (λ r. Valued (with_given (target_of a) r given))) is

  -- where it is refused, nothing is given
  pub given_refused : {X : Type 0} (view : X → Given) (given : Given) (a : Assignment) (f : Fault) (u : Change → Relation) → Answers u (Err f) (assigned_of db given a)
      → Answers view (Err f) (with_assignment db given a)
  given_refused view given a f u h =
      subst (Answers view (Err f)) (in_turn (current db given (target_of a)) (λ so_far. assigned_over db so_far a) (λ r. Valued (with_given (target_of a) r given)))
      (refused_on u view f (assigned_of db given a) (λ r. Valued (with_given (target_of a) r given)) h)
