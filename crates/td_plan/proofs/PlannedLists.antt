-- The expressions in a list, and plans of them.
use Rattle.std.proofs.Common.{◌≡◌, ◌∙◌, ◌+◌, ◌<◌, ℕ, List, [], ◌∷◌, ◌++◌, add-one, ap, get_or, length, map, refl, subst, sym, take}
use Rattle.std.proofs.Math.Seq.{take-suc}
use Rattle.td_check.specs.model.Scopes.{Scope}
use Rattle.td_plan.specs.declared.plan.step.Step.{Step}
use Rattle.td_plan.specs.code.PlannedParts.{ArePlansOfTyped, in_named, in_summaries, in_trees, item_tree, names_in, part_tree}
use Rattle.td_plan.specs.code.PlansOf.{IsPlanOfTyped}
use Rattle.td_plan.specs.code.StepViews.{step_view, steps_view}
use Rattle.td_tree.specs.declared.expression.Expr.{Expr}
use Rattle.td_tree.specs.declared.expression.NamedExpr.{NamedExpr}
use Rattle.td_tree.specs.declared.expression.Summary.{Summary}
use Rattle.td_tree.specs.declared.expression.Summary.TheVariants as summaries
use Rattle.td_tree.specs.code.TreeViews.{named_view, summaries_view, tree_view, trees_view}
use Rattle.td_tree.specs.model.Trees.{Tree}

pub expressions_are : (xs : List Expr) → in_trees (trees_view xs) ≡ map tree_view xs
expressions_are [] = refl
expressions_are (x ∷ xs) = ap (λ es. tree_view x ∷ es) (expressions_are xs)

pub parts_are : (xs : List NamedExpr) → in_named (named_view xs) ≡ map part_tree xs
parts_are [] = refl
parts_are (x ∷ xs) = ap (λ es. tree_view x.value ∷ es) (parts_are xs)

pub names_are : (xs : List NamedExpr) → names_in (named_view xs) ≡ map (λ (part : NamedExpr). part.name) xs
names_are [] = refl
names_are (x ∷ xs) = ap (λ ns. x.name ∷ ns) (names_are xs)

pub items_are : (xs : List Summary) → in_summaries (summaries_view xs) ≡ map item_tree xs
items_are [] = refl
items_are (summaries.Count name ∷ xs) = ap (λ es. item_tree (summaries.Count name) ∷ es) (items_are xs)
items_are (summaries.Of op value name ∷ xs) = ap (λ es. item_tree (summaries.Of op value name) ∷ es) (items_are xs)

-- one more plan
one_planned : (scope : Scope) (ps : List Step) (p : Step) (es : List Tree) (e : Tree) → ArePlansOfTyped scope (steps_view ps) es → IsPlanOfTyped scope (step_view p) e
    → ArePlansOfTyped scope (steps_view (ps ++ (p ∷ []))) (es ++ (e ∷ []))
one_planned scope [] p [] e all is = (is, tt)
one_planned scope [] p (d ∷ es) e all is = absurd all
one_planned scope (q ∷ ps) p [] e all is = absurd all
one_planned scope (q ∷ ps) p (d ∷ es) e all is = (all.0, one_planned scope ps p es e all.1 is)

one_taken : {X : Type 0} (f : X → Tree) (xs : List X) (x : X) → map f (xs ++ (x ∷ [])) ≡ map f xs ++ (f x ∷ [])
one_taken f [] x = refl
one_taken f (y ∷ xs) x = ap (λ es. f y ∷ es) (one_taken f xs x)

-- one step of a loop
pub one_more_planned : {X : Type 0} (scope : Scope) (f : X → Tree) (ps qs : List Step) (p : Step) (xs : List X) (i : ℕ) (x : X) → i < length xs
    → x ≡ get_or xs i x → qs ≡ ps ++ (p ∷ [])
    → ArePlansOfTyped scope (steps_view ps) (map f (take i xs)) → IsPlanOfTyped scope (step_view p) (f x)
    → ArePlansOfTyped scope (steps_view qs) (map f (take (i + 1) xs))
one_more_planned scope f ps qs p xs i x l at pushed all is =
    let taken = (λ j. take (add-one i j) xs) ∙ take-suc xs i x l ∙ (λ j. take i xs ++ (sym at j ∷ [])) in
    subst (λ rs. ArePlansOfTyped scope (steps_view rs) (map f (take (i + 1) xs))) (sym pushed)
    (subst (ArePlansOfTyped scope (steps_view (ps ++ (p ∷ [])))) (sym (ap (map f) taken ∙ one_taken f (take i xs) x))
    (one_planned scope ps p (map f (take i xs)) (f x) all is))
