-- How deep evaluation goes: by the heights of expressions, and of the constraints of the types whose selectors are known and of
-- the virtual relvars that are.
use Rattle.std.proofs.Common.{◌≡◌, ◌∙◌, ◌+◌, ◌*◌, ◌<◌, ◌≤◌, ℕ, zero, suc, List, [], ◌∷◌, Option, Some, None, ap, arith, get_or, length, option_map, refl, subst, sym, take}
use Rattle.std.specs.List.{slice_get}
use Rattle.std.proofs.lemmas.List.Recursion.{max_bounds}
use Rattle.std.proofs.Math.Nat.{zero-max}
use Rattle.std.specs.Prelude.{max}
use Rattle.td_catalog.specs.model.Database.{VirtualRelvar}
use Rattle.td_eval.specs.declared.lent_world.LentWorld.{LentWorld}
use Rattle.td_eval.specs.code.LentWorlds.{virtuals_of}
use Rattle.td_tree.specs.declared.expression.Expr.{Expr}
use Rattle.td_tree.specs.declared.expression.NamedExpr.{NamedExpr}
use Rattle.td_tree.specs.declared.expression.Summary.{Summary}
use Rattle.td_tree.specs.declared.expression.Summary.TheVariants as summaries
use Rattle.td_tree.specs.model.Heights.{height, highest, highest_named, highest_summary}
use Rattle.td_tree.specs.model.Trees.{Tree}
use Rattle.td_tree.specs.code.TreeViews.{named_view, summaries_view, tree_view, trees_view}
use Rattle.td_types.specs.model.TypeLists.{DeclaredType}

-- the height of an expression, if there is one
abbrev pub height_if : Option Tree → ℕ
height_if None = zero
height_if (Some e) = height e

abbrev pub constraint_height : DeclaredType → ℕ
constraint_height d = height_if d.constraint

abbrev pub tree_height : VirtualRelvar → ℕ
tree_height v = height v.tree

-- what entries of these heights weigh
abbrev pub weights : {X : Type 0} → (X → ℕ) → List X → ℕ
weights h [] = zero
weights h (x ∷ xs) = 8 * h x + 2 + weights h xs

-- what the selectors and the virtual relvars that are seen weigh
abbrev pub weight : {B : Type 0} → LentWorld B → ℕ
weight lent =
    weights constraint_height (take lent.selectors lent.types.now) + weights tree_height (take lent.virtuals (virtuals_of lent))

-- an entry weighs more than its height, beside those before it
pub weight_before : {X : Type 0} (h : X → ℕ) (xs : List X) (place count : ℕ) (x : X) → slice_get xs place ≡ Some x → place < count
    → weights h (take place xs) + (8 * h x + 2) ≤ weights h (take count xs)
weight_before h [] place count x entry before = absurd (cc)
weight_before h (y ∷ xs) place zero x entry before = absurd (omega (arith, before))
weight_before {X} h (y ∷ xs) zero (suc count) x entry before =
    let same : h y ≡ h x = ap h (some_entry y x entry) in
    omega (arith, same)
  where
    some_entry : (u v : X) → Some u ≡ Some v → u ≡ v
    some_entry u v e = cc
weight_before h (y ∷ xs) (suc place) (suc count) x entry before =
    let rest = weight_before h xs place count x entry (omega (arith, before)) in
    omega (arith, rest)

-- so does a virtual relvar beside its expression
pub tree_before : (vs : List VirtualRelvar) (place count : ℕ) (tree : Tree) → option_map (λ (v : VirtualRelvar). v.tree) (slice_get vs place) ≡ Some tree
    → place < count → weights tree_height (take place vs) + (8 * height tree + 2) ≤ weights tree_height (take count vs)
tree_before vs place count tree entry before = by_option (slice_get vs place) refl
  where
    by_option : (o : Option VirtualRelvar) → slice_get vs place ≡ o → weights tree_height (take place vs) + (8 * height tree + 2) ≤ weights tree_height (take count vs)
    by_option None none = let clash : None ≡ Some tree = sym (ap (option_map (λ (v : VirtualRelvar). v.tree)) none) ∙ entry in absurd (cc)
    by_option (Some v) some =
        let is : Some v.tree ≡ Some tree = sym (ap (option_map (λ (v : VirtualRelvar). v.tree)) some) ∙ entry in
        let same : v.tree ≡ tree = cc in
        let less = weight_before tree_height vs place count v some before in
        omega (arith, less, ap height same)

-- no expression of a list is higher than the highest
pub height_listed : (xs : List Expr) (i : ℕ) (x : Expr) → i < length xs → x ≡ get_or xs i x → height (tree_view x) ≤ highest (trees_view xs)
height_listed xs i x inside is =
    subst (λ y. height (tree_view y) ≤ highest (trees_view xs)) (sym is)
    (max_bounds (λ ys. highest (trees_view ys)) (λ y. height (tree_view y)) refl (λ y ys. refl) xs i x inside)

pub height_named : (xs : List NamedExpr) (i : ℕ) (x : NamedExpr) → i < length xs → x ≡ get_or xs i x
    → height (tree_view x.value) ≤ highest_named (named_view xs)
height_named xs i x inside is =
    subst (λ y. height (tree_view y.value) ≤ highest_named (named_view xs)) (sym is)
    (max_bounds (λ ys. highest_named (named_view ys)) (λ y. height (tree_view y.value)) refl (λ y ys. refl) xs i x inside)

-- the height of what an item of SUMMARIZE is of
abbrev pub item_height : Summary → ℕ
item_height (summaries.Count name) = zero
item_height (summaries.Of op value name) = height (tree_view value)

pub height_item : (xs : List Summary) (i : ℕ) (x : Summary) → i < length xs → x ≡ get_or xs i x → item_height x ≤ highest_summary (summaries_view xs)
height_item xs i x inside is =
    subst (λ y. item_height y ≤ highest_summary (summaries_view xs)) (sym is)
    (max_bounds (λ ys. highest_summary (summaries_view ys)) item_height refl step xs i x inside)
  where
    step : (y : Summary) (ys : List Summary) → highest_summary (summaries_view (y ∷ ys)) ≡ max (item_height y) (highest_summary (summaries_view ys))
    step (summaries.Count name) ys = sym (zero-max (highest_summary (summaries_view ys)))
    step (summaries.Of op value name) ys = refl
