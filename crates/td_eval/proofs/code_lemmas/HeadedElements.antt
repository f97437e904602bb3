-- RELATION with a heading, whose elements have the same values in every world.
use Rattle.std.proofs.Common.{◌≡◌, List, Result, Err, map, refl, subst}
use Rattle.td_check.proofs.Gives.{answered_then}
use Rattle.td_eval.specs.model.OperatorValues.{headed_value}
use Rattle.td_eval.specs.model.TreeValues.{argument_values}
use Rattle.td_eval.specs.model.Worlds.{World}
use Rattle.td_eval.specs.code.FixedValues.{AreFixed}
use Rattle.td_tree.specs.model.Outcomes.{Answers, Outcome, Refused, Valued, with_both, with_value}
use Rattle.td_tree.specs.model.Trees.{Trees}
use Rattle.td_tree.specs.declared.fault.Fault.{Fault}
use Rattle.td_types.proofs.Resolutions.{answers_still}
use Rattle.td_types.specs.model.Types.{Heading}
use Rattle.td_value.specs.model.Values.{Tuple, Val, tuple_value}

both_with : {A B C : Type 0} (o : Outcome A) (y : B) (f : A → B → Outcome C) → with_value o (λ x. f x y) ≡ with_both o (Valued y) f
both_with (Valued x) y f = refl
both_with (Refused cs) y f = refl

-- a heading, as the types that the code knows mean it and as the world's do
module _ (w : World) (s : List Tuple) (elements : Trees) (ts : List Tuple) (fixed : AreFixed elements (map tuple_value ts)) (found meant : Outcome Heading)
    (same : found ≡ meant) where
  abbrev given : Result Val Fault → Type 0
  given x = Answers (λ v. v) x (with_both meant (argument_values w s elements) headed_value)

  abbrev in_hand : Result Val Fault → Type 0
  in_hand x = Answers (λ v. v) x (with_value found (λ h. headed_value h (map tuple_value ts)))

  in_world : (x : Result Val Fault) → in_hand x → given x
  in_world x a =
      rw (fixed w s, ← same) (subst (Answers (λ (v : Val). v) x) (both_with found (map tuple_value ts) headed_value) a)

  pub heading_refused : (e : Fault) → Answers (λ (h : Heading). h) (Err e) found → given (Err e)
  heading_refused e a =
      in_world (Err e) (answers_still (λ (h : Heading). h) (λ (v : Val). v) e found (λ h. headed_value h (map tuple_value ts)) a)

  pub heading_given : (h : Heading) (x : Result Val Fault) → found ≡ Valued h → Answers (λ v. v) x (headed_value h (map tuple_value ts)) → given x
  heading_given h x is a =
      in_world x (answered_then (λ (g : Heading). g) h found (λ g. headed_value g (map tuple_value ts)) (λ (v : Val). v) x is a)
