-- What is found of the elements of lists is what is found of the lists.
use Rattle.std.proofs.Common.{◌≡◌, ◌≤◌, ◌∙◌, ℕ, suc, List, [], ◌∷◌, Option, Result, Ok, Err, ap, length, map, refl, subst, sym, take}
use Rattle.std.proofs.lemmas.List.{length-map, map-id, take_all}
use Rattle.std.specs.Global.{Vec}
use Rattle.std.specs.Prelude.{IfOk}
use Rattle.td_eval.specs.model.TreeValues.{argument_values, entry_values, value_of, values_in_tuples}
use Rattle.td_eval.specs.model.Worlds.{World}
use Rattle.td_check.specs.model.Scopes.{Scope}
use Rattle.td_check.specs.model.StaticTypes.{named_types, type_of}
use Rattle.td_tree.proofs.code_lemmas.Gatherings.{answers_gathered}
use Rattle.td_tree.specs.declared.cause.Cause.{Cause}
use Rattle.td_tree.specs.declared.expression.Expr.{Expr}
use Rattle.td_tree.specs.declared.expression.NamedExpr.{NamedExpr}
use Rattle.td_tree.specs.declared.fault.Fault.{Fault}
use Rattle.td_tree.specs.code.Gatherings.{IsGathered, answer_of}
use Rattle.td_tree.specs.model.Outcomes.{Answers, Outcome, Valued, Refused, gathered, with_both, with_value}
use Rattle.td_tree.specs.code.TreeViews.{named_view, tree_view, trees_view}
use Rattle.td_types.proofs.OutcomeLaws.{valued_is, values_of_both}
use Rattle.td_types.specs.model.Types.{Attribute}
use Rattle.td_value.specs.model.Values.{Tuple, Val}

-- there are as many values as outcomes
pub as_many : {A : Type 0} (os : List (Outcome A)) (xs : List A) → gathered os ≡ Valued xs → length xs ≡ length os
as_many [] xs e = ap length (valued_is xs [] (sym e))
as_many (o ∷ os) xs e =
    let is = values_of_both o (gathered os) (λ y ys. Valued (y ∷ ys)) xs e in
    ap length (valued_is xs (is.0 ∷ is.1) (sym is.4)) ∙ ap suc (as_many os is.1 is.3)

-- so there are where an answer has values
pub of_as_many : {X Y : Type 0} (r : Result (Vec Y) Fault) (f : X → Outcome Y) (xs : List X) → Answers (λ v. v.items) r (gathered (map f xs))
    → IfOk r (λ v. length v.items ≡ length xs)
of_as_many (Ok v) f xs a = as_many (map f xs) v.items a ∙ length-map xs f
of_as_many (Err e) f xs a = tt

module _ (w : World) (s : List Tuple) where
  abbrev pub value_found : Expr → Outcome Val
  value_found e = value_of w s (tree_view e)

  pub arguments_are : (xs : List Expr) → gathered (map value_found xs) ≡ argument_values w s (trees_view xs)
  arguments_are [] = refl
  arguments_are (x ∷ xs) = ap (λ o. with_both (value_found x) o (λ v vs. Valued (v ∷ vs))) (arguments_are xs)

  abbrev pub entry_found : NamedExpr → Outcome (List ℕ × Val)
  entry_found part = with_value (value_of w s (tree_view part.value)) (λ v. Valued (part.name, v))

  pub entries_are : (xs : List NamedExpr) → gathered (map entry_found xs) ≡ entry_values w s (named_view xs)
  entries_are [] = refl
  entries_are (x ∷ xs) =
      by_outcome (value_of w s (tree_view x.value)) (gathered (map entry_found xs))
      ∙ ap (λ o. with_both (value_of w s (tree_view x.value)) o (λ v es. Valued ((x.name, v) ∷ es))) (entries_are xs)
    where
      by_outcome : (o : Outcome Val) (p : Outcome Tuple)
          → with_both (with_value o (λ v. Valued (x.name, v))) p (λ e rest. Valued (e ∷ rest)) ≡ with_both o p (λ v rest. Valued ((x.name, v) ∷ rest))
      by_outcome (Valued v) (Valued rest) = refl
      by_outcome (Valued v) (Refused ds) = refl
      by_outcome (Refused cs) (Valued rest) = refl
      by_outcome (Refused cs) (Refused ds) = refl

  pub as_many_parts : (xs : List NamedExpr) → length (values_in_tuples w s (named_view xs)) ≡ length xs
  as_many_parts [] = refl
  as_many_parts (x ∷ xs) = ap suc (as_many_parts xs)

-- there are as many attributes as parts
pub as_many_types : (scope : Scope) (xs : List NamedExpr) (attributes : List Attribute) → named_types scope (named_view xs) ≡ Valued attributes
    → length attributes ≡ length xs
as_many_types scope [] attributes e = ap length (valued_is attributes [] (sym e))
as_many_types scope (x ∷ xs) attributes e =
    let is = values_of_both (type_of scope (tree_view x.value)) (named_types scope (named_view xs)) (λ t rest. Valued ((x.name, t) ∷ rest)) attributes e in
    ap length (valued_is attributes ((x.name, is.0) ∷ is.1) (sym is.4)) ∙ ap suc (as_many_types scope xs is.1 is.3)

-- what is answered once a list is gone through
pub walked : {X A V : Type 0} (view : V → List A) (f : X → Outcome A) (xs : List X) (i : ℕ) → length xs ≤ i
    → (least : Option Cause) (v : V) (r : Result V Fault) → r ≡ answer_of least v → IsGathered least (view v) (map f (take i xs))
    → (o : Outcome (List A)) → gathered (map f xs) ≡ o → Answers view r o
walked view f xs i past least v r is so_far o same =
    rw (is, ← same)
    (answers_gathered view least v (map f xs) (subst (λ ys. IsGathered least (view v) (map f ys)) (take_all i xs past) so_far))

-- the same, of values as they are
pub walked_values : {X Y : Type 0} (f : X → Outcome Y) (xs : List X) (i : ℕ) → length xs ≤ i
    → (least : Option Cause) (ys : Vec Y) (r : Result (Vec Y) Fault) → r ≡ answer_of least ys → IsGathered least (map (λ y. y) ys.items) (map f (take i xs))
    → (o : Outcome (List Y)) → gathered (map f xs) ≡ o → Answers (λ v. v.items) r o
walked_values f xs i past least ys r is so_far o same =
    walked (λ v. v.items) f xs i past least ys r is (subst (λ zs. IsGathered least zs (map f (take i xs))) (map-id ys.items) so_far) o same
