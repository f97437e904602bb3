-- What stands where WITH's items are in scope, by one item after another.
use Rattle.std.proofs.Common.{◌≡◌, ◌∙◌, ◌+◌, ◌<◌, ◌≤◌, List, [], ◌∷◌, ℕ, ap, drop, get_or, length, sym}
use Rattle.std.proofs.lemmas.List.{drop_all, drop_more}
use Rattle.td_eval.specs.model.TreeValues.{value_of, value_where_bound}
use Rattle.td_eval.specs.model.Worlds.{World}
use Rattle.td_tree.specs.declared.expression.NamedExpr.{NamedExpr}
use Rattle.td_tree.specs.model.Outcomes.{Outcome, with_value}
use Rattle.td_tree.specs.code.TreeViews.{named_view, tree_view}
use Rattle.td_value.specs.model.Values.{Tuple, Val}

module _ (w : World) (inside : List Tuple → Outcome Val) where
  -- what stands where the items from a place on are in scope
  abbrev pub bound_from : List NamedExpr → ℕ → List Tuple → Outcome Val
  bound_from xs i s = value_where_bound w s (named_view (drop i xs)) inside

  -- that is by the value of the item at the place
  pub item_next : (xs : List NamedExpr) (i : ℕ) (x : NamedExpr) (s : List Tuple) → i < length xs → x ≡ get_or xs i x
      → bound_from xs i s ≡ with_value (value_of w s (tree_view x.value)) (λ v. bound_from xs (i + 1) (((x.name, v) ∷ []) ∷ s))
  item_next xs i x s within is =
      ap (λ ys. value_where_bound w s (named_view ys) inside) (drop_more xs i x within)
      ∙ ap (λ y. with_value (value_of w s (tree_view y.value)) (λ v. bound_from xs (i + 1) (((y.name, v) ∷ []) ∷ s))) (sym is)

  -- past the last item it is what stands there
  pub past_items : (xs : List NamedExpr) (i : ℕ) (s : List Tuple) → length xs ≤ i → bound_from xs i s ≡ inside s
  past_items xs i s past = ap (λ ys. value_where_bound w s (named_view ys) inside) (drop_all i xs past)
