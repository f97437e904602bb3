-- What a selector gives, by what is answered of its type's constraint.
use Rattle.std.proofs.Common.{◌≡◌, ◌∙◌, ℕ, Bool, true, false, List, Option, Some, None, Result, ap, map, subst, sym, take}
use Rattle.td_check.specs.model.OperatorTypes.{are_types_of}
use Rattle.td_eval.specs.model.DatabaseWorlds.{constraint_value, world_of_types}
use Rattle.td_eval.specs.declared.lent_world.LentWorld.{LentWorld}
use Rattle.td_eval.specs.code.LentWorlds.{IsSelector, seen_by}
use Rattle.td_eval.specs.model.Worlds.{selector_outcome}
use Rattle.td_tree.specs.declared.cause.Cause.TheVariants as causes
use Rattle.td_tree.specs.declared.fault.Fault.{Fault}
use Rattle.td_tree.specs.model.Outcomes.{Answers, Outcome, Refused, Only, named_cause, value_if, with_value}
use Rattle.td_types.specs.model.TypeLists.{DeclaredType}
use Rattle.td_value.specs.model.Values.{Val, selected_value, type_of, user_view}

module _ {B : Type 0} (lent : LentWorld B) (n : List ℕ) (place : ℕ) (d : DeclaredType) (is : IsSelector lent n place d) (vs : List Val) where
  -- what it gives by what its type's constraint does
  abbrev given_by : Option (List Val → Outcome Val) → Outcome Val
  given_by o = elim o as (λ _. Outcome Val) [ Some f ↦ f vs | None ↦ Refused (Only causes.NameUnknown) ]

  abbrev by_types : Bool → List ℕ → Outcome Val
  by_types typed m =
      with_value (value_if typed (user_view m vs) causes.TypeMismatch)
      (λ u. with_value (constraint_value (world_of_types lent.types.now (take place lent.types.now)) d vs)
      (λ holds. value_if holds (selected_value u) causes.TypeConstraint))

  selected_is : selector_outcome (seen_by lent) n vs ≡ by_types (are_types_of (map type_of vs) d.components) d.name
  selected_is = ap given_by is.selector

  -- components that have not the types of its own
  pub mismatched : are_types_of (map type_of vs) d.components ≡ false → named_cause (selector_outcome (seen_by lent) n vs) ≡ Some causes.TypeMismatch
  mismatched e = ap named_cause (selected_is ∙ ap (λ b. by_types b d.name) e)

  -- components that have
  pub constructed_of : are_types_of (map type_of vs) d.components ≡ true → (x : Result Val Fault) → Answers (λ v. v) x (by_types true n)
      → Answers (λ v. v) x (selector_outcome (seen_by lent) n vs)
  constructed_of e x a = subst (Answers (λ (v : Val). v) x) (sym (selected_is ∙ ap (λ b. by_types b d.name) e ∙ ap (by_types true) is.named)) a
