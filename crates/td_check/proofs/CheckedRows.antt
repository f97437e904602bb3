-- The lists of expressions in a tree are lists: what is said of their elements is said of them.
use Rattle.std.proofs.Common.{◌≡◌, ◌∙◌, ◌∷◌, ◌++◌, ℕ, List, [], ap, map, refl}
use Rattle.std.proofs.lemmas.List.{append-nil}
use Rattle.td_check.specs.code.CheckViews.{item_found, part_found}
use Rattle.td_check.specs.model.Mentions.{relvars_in, relvars_in_all, relvars_in_items, relvars_in_named, types_in, types_in_all, types_in_items, types_in_named}
use Rattle.td_check.specs.model.OperatorTypes.{Item, aggregate_item, count_item}
use Rattle.td_check.specs.model.Scopes.{Scope}
use Rattle.td_check.specs.model.StaticTypes.{items_of, named_types, type_of, types_of}
use Rattle.td_check.proofs.CheckedLists.{of_each}
use Rattle.td_tree.specs.declared.expression.Expr.{Expr}
use Rattle.td_tree.specs.declared.expression.NamedExpr.{NamedExpr}
use Rattle.td_tree.specs.declared.expression.Summary.{Summary}
use Rattle.td_tree.specs.declared.expression.Summary.TheVariants as s
use Rattle.td_tree.specs.declared.operator.Aggregate.{Aggregate}
use Rattle.td_tree.specs.model.Outcomes.{Outcome, Valued, Refused, gathered, with_both, with_value}
use Rattle.td_tree.specs.code.TreeViews.{named_view, summaries_view, tree_view, trees_view}
use Rattle.td_types.specs.model.Types.{Type', Attribute}

module _ (scope : Scope) where
  -- ---- expressions

  abbrev pub type_found : Expr → Outcome Type'
  type_found e = type_of scope (tree_view e)

  abbrev pub relvars_of : Expr → List (List ℕ)
  relvars_of e = relvars_in scope (tree_view e)

  pub types_are : (xs : List Expr) → gathered (map type_found xs) ≡ types_of scope (trees_view xs)
  types_are [] = refl
  types_are (x ∷ xs) = ap (λ o. with_both (type_of scope (tree_view x)) o (λ t ts. Valued (t ∷ ts))) (types_are xs)

  pub relvars_are : (xs : List Expr) → of_each relvars_of xs ≡ relvars_in_all scope (trees_view xs)
  relvars_are [] = refl
  relvars_are (x ∷ xs) = ap (λ ns. relvars_in scope (tree_view x) ++ ns) (relvars_are xs)

  -- ---- names with expressions

  abbrev pub relvars_of_part : NamedExpr → List (List ℕ)
  relvars_of_part part = relvars_in scope (tree_view part.value)

  pub parts_are : (xs : List NamedExpr) → gathered (map (part_found scope) xs) ≡ named_types scope (named_view xs)
  parts_are [] = refl
  parts_are (x ∷ xs) =
      by_outcome (type_of scope (tree_view x.value)) (gathered (map (part_found scope) xs))
      ∙ ap (λ o. with_both (type_of scope (tree_view x.value)) o (λ t attributes. Valued ((x.name, t) ∷ attributes))) (parts_are xs)
    where
      by_outcome : (o : Outcome Type') (p : Outcome (List Attribute))
          → with_both (with_value o (λ t. Valued (x.name, t))) p (λ a rest. Valued (a ∷ rest)) ≡ with_both o p (λ t rest. Valued ((x.name, t) ∷ rest))
      by_outcome (Valued t) (Valued rest) = refl
      by_outcome (Valued t) (Refused ds) = refl
      by_outcome (Refused cs) (Valued rest) = refl
      by_outcome (Refused cs) (Refused ds) = refl

  pub relvars_of_parts : (xs : List NamedExpr) → of_each relvars_of_part xs ≡ relvars_in_named scope (named_view xs)
  relvars_of_parts [] = refl
  relvars_of_parts (x ∷ xs) = ap (λ ns. relvars_in scope (tree_view x.value) ++ ns) (relvars_of_parts xs)

  -- ---- items of SUMMARIZE

  abbrev pub relvars_of_item : Summary → List (List ℕ)
  relvars_of_item item = relvars_in_items scope (summaries_view (item ∷ []))

  after_aggregate : (op : Aggregate) (n : List ℕ) (o : Outcome Type') (p : Outcome (List (List ℕ × Item)))
      → with_both (with_value o (λ t. Valued (n, aggregate_item op t))) p (λ a rest. Valued (a ∷ rest))
      ≡ with_both o p (λ t rest. Valued ((n, aggregate_item op t) ∷ rest))
  after_aggregate op n (Valued t) (Valued rest) = refl
  after_aggregate op n (Valued t) (Refused ds) = refl
  after_aggregate op n (Refused cs) (Valued rest) = refl
  after_aggregate op n (Refused cs) (Refused ds) = refl

  after_count : (n : List ℕ) (p : Outcome (List (List ℕ × Item)))
      → with_both (Valued (n, count_item)) p (λ a rest. Valued (a ∷ rest)) ≡ with_value p (λ rest. Valued ((n, count_item) ∷ rest))
  after_count n (Valued rest) = refl
  after_count n (Refused ds) = refl

  pub items_are : (xs : List Summary) → gathered (map (item_found scope) xs) ≡ items_of scope (summaries_view xs)
  items_are [] = refl
  items_are (s.Count n ∷ xs) =
      after_count n (gathered (map (item_found scope) xs)) ∙ ap (λ o. with_value o (λ rest. Valued ((n, count_item) ∷ rest))) (items_are xs)
  items_are (s.Of op value n ∷ xs) =
      after_aggregate op n (type_of scope (tree_view value)) (gathered (map (item_found scope) xs))
      ∙ ap (λ o. with_both (type_of scope (tree_view value)) o (λ t rest. Valued ((n, aggregate_item op t) ∷ rest))) (items_are xs)

  pub relvars_of_items : (xs : List Summary) → of_each relvars_of_item xs ≡ relvars_in_items scope (summaries_view xs)
  relvars_of_items [] = refl
  relvars_of_items (s.Count n ∷ xs) = relvars_of_items xs
  relvars_of_items (s.Of op value n ∷ xs) =
      ap (λ ns. ns ++ of_each relvars_of_item xs) (append-nil (relvars_in scope (tree_view value)))
      ∙ ap (λ ns. relvars_in scope (tree_view value) ++ ns) (relvars_of_items xs)

-- ---- types that are mentioned

abbrev pub types_of_part : NamedExpr → List (List ℕ)
types_of_part part = types_in (tree_view part.value)

abbrev pub types_of_item : Summary → List (List ℕ)
types_of_item item = types_in_items (summaries_view (item ∷ []))

abbrev pub types_of_one : Expr → List (List ℕ)
types_of_one e = types_in (tree_view e)

pub mentioned_types : (xs : List Expr) → of_each types_of_one xs ≡ types_in_all (trees_view xs)
mentioned_types [] = refl
mentioned_types (x ∷ xs) = ap (λ ns. types_in (tree_view x) ++ ns) (mentioned_types xs)

pub types_of_parts : (xs : List NamedExpr) → of_each types_of_part xs ≡ types_in_named (named_view xs)
types_of_parts [] = refl
types_of_parts (x ∷ xs) = ap (λ ns. types_in (tree_view x.value) ++ ns) (types_of_parts xs)

pub types_of_items : (xs : List Summary) → of_each types_of_item xs ≡ types_in_items (summaries_view xs)
types_of_items [] = refl
types_of_items (s.Count n ∷ xs) = types_of_items xs
types_of_items (s.Of op value n ∷ xs) =
    ap (λ ns. ns ++ of_each types_of_item xs) (append-nil (types_in (tree_view value)))
    ∙ ap (λ ns. types_in (tree_view value) ++ ns) (types_of_items xs)
