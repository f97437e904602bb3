-- None of several expressions has more nodes than all together.
use Rattle.std.proofs.Common.{◌≡◌, ◌<◌, ◌≤◌, ℕ, zero, suc, List, [], ◌∷◌, arith, ap, get_or, length}
use Rattle.td_plan.specs.code.TreeWeights.{expr_weight, item_weight, named_weight, summaries_weight, weights}
use Rattle.td_tree.specs.declared.expression.Expr.{Expr}
use Rattle.td_tree.specs.declared.expression.NamedExpr.{NamedExpr}
use Rattle.td_tree.specs.declared.expression.Summary.{Summary}
use Rattle.td_tree.specs.declared.expression.Summary.TheVariants as items
use Rattle.td_tree.specs.code.TreeViews.{named_view, summaries_view, trees_view}

pub weight_part : (xs : List Expr) (i : ℕ) (x : Expr) → i < length xs → x ≡ get_or xs i x → expr_weight x ≤ weights (trees_view xs)
weight_part [] i x l e = absurd (omega arith)
weight_part (y ∷ xs) zero x l e = let h = ap expr_weight e in omega (arith, h)
weight_part (y ∷ xs) (suc i) x l e = let h = weight_part xs i x (omega arith) e in omega (arith, h)

pub weight_named : (xs : List NamedExpr) (i : ℕ) (x : NamedExpr) → i < length xs → x ≡ get_or xs i x
    → expr_weight x.value ≤ named_weight (named_view xs)
weight_named [] i x l e = absurd (omega arith)
weight_named (y ∷ xs) zero x l e = let h = ap (λ (z : NamedExpr). expr_weight z.value) e in omega (arith, h)
weight_named (y ∷ xs) (suc i) x l e = let h = weight_named xs i x (omega arith) e in omega (arith, h)

pub weight_item : (xs : List Summary) (i : ℕ) (x : Summary) → i < length xs → x ≡ get_or xs i x → item_weight x ≤ summaries_weight (summaries_view xs)
weight_item [] i x l e = absurd (omega arith)
weight_item (items.Count name ∷ xs) zero x l e = let h = ap item_weight e in omega (arith, h)
weight_item (items.Of op value name ∷ xs) zero x l e = let h = ap item_weight e in omega (arith, h)
weight_item (items.Count name ∷ xs) (suc i) x l e = let h = weight_item xs i x (omega arith) e in omega (arith, h)
weight_item (items.Of op value name ∷ xs) (suc i) x l e = let h = weight_item xs i x (omega arith) e in omega (arith, h)
