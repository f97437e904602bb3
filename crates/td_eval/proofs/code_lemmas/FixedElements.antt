-- Elements that are tuples of literals, one after the other.
use Rattle.std.proofs.Common.{◌≡◌, ◌∙◌, ◌+◌, ◌<◌, ◌≤◌, ℕ, Bool, true, false, List, [], ◌∷◌, ◌++◌, ap, append-nil, arith, get_or, length, map, refl, sym, take}
use Rattle.std.proofs.lemmas.List.{length-append, map-append, take_all, take_more}
use Rattle.std.specs.Cmp.Lexicographic.{same_text}
use Rattle.std.specs.List.{zip}
use Rattle.std.specs.List.Sorted.{IsPermutation}
use Rattle.std.specs.Prelude.{not}
use Rattle.td_algebra.proofs.Taken.{layout_in_range, numbered_in_range, taken_numbered}
use Rattle.td_algebra.specs.code.Layouts.{AreInRange, Sources, numbered_sources, placed_tuple}
use Rattle.td_eval.proofs.code_lemmas.WalkedLists.{arguments_are, entries_are, entry_found, value_found}
use Rattle.td_eval.specs.model.OperatorValues.{tuple_from}
use Rattle.td_eval.specs.model.TreeValues.{value_of}
use Rattle.td_eval.specs.model.Worlds.{World}
use Rattle.td_eval.specs.code.FixedValues.{AreFixed, EntriesAreFixed, IsFixed, IsPut}
use Rattle.td_tree.specs.declared.expression.Expr.{Expr}
use Rattle.td_tree.specs.declared.expression.NamedExpr.{NamedExpr}
use Rattle.td_tree.specs.model.Outcomes.{Outcome, Valued, gathered, with_value}
use Rattle.td_tree.specs.model.Trees as trees
use Rattle.td_tree.specs.code.TreeViews.{named_view, tree_view, trees_view}
use Rattle.td_types.proofs.OutcomeLaws.{valued_is, values_of_both}
use Rattle.td_types.specs.model.Headings.{are_distinct}
use Rattle.td_types.specs.model.Types.{same_name}
use Rattle.td_value.proofs.HeadingOf.{zip-append}
use Rattle.td_value.proofs.Zips.{zip_names}
use Rattle.td_value.specs.model.Values.{Tuple, Val, tuple_names, tuple_of, tuple_value}

-- ---- lists of outcomes

gathered_more : {A : Type 0} (os : List (Outcome A)) (xs : List A) (x : A) → gathered os ≡ Valued xs → gathered (os ++ Valued x ∷ []) ≡ Valued (xs ++ x ∷ [])
gathered_more [] xs x e = ap (λ ys. Valued (ys ++ x ∷ [])) (valued_is [] xs e)
gathered_more (o ∷ os) xs x e =
    let is = values_of_both o (gathered os) (λ y ys. Valued (y ∷ ys)) xs e in
    rw (is.2, gathered_more os is.1 x is.3) (ap (λ zs. Valued (zs ++ x ∷ [])) (valued_is (is.0 ∷ is.1) xs is.4))

-- one more of a list has its value
pub valued_next : {X A : Type 0} (f : X → Outcome A) (xs : List X) (i : ℕ) (x : X) (ys : List A) (y : A) → i < length xs → x ≡ get_or xs i x
    → gathered (map f (take i xs)) ≡ Valued ys → f x ≡ Valued y → gathered (map f (take (i + 1) xs)) ≡ Valued (ys ++ y ∷ [])
valued_next f xs i x ys y inside is g e =
    ap (λ zs. gathered (map f zs)) (take_more xs i x inside ∙ ap (λ z. take i xs ++ z ∷ []) (sym is))
    ∙ ap gathered (map-append f (take i xs) (x ∷ []) ∙ ap (λ o. map f (take i xs) ++ o ∷ []) e)
    ∙ gathered_more (map f (take i xs)) ys y g

-- ---- the parts of an element

-- the values so far, each beside its name
abbrev pub PartsSoFar : List NamedExpr → List (List ℕ) → ℕ → List Val → Type 0
PartsSoFar parts names i row =
    (length row ≡ length (take i names))
    × ((w : World) (s : List Tuple) → gathered (map (entry_found w s) (take i parts)) ≡ Valued (zip (take i names) row))

pub one_more_part : (parts : List NamedExpr) (names : List (List ℕ)) (i : ℕ) (part : NamedExpr) (name : List ℕ) (row more : List Val) (v : Val)
    → i < length parts → part ≡ get_or parts i part → i < length names → name ≡ get_or names i name → part.name ≡ name
    → IsFixed (tree_view part.value) v → more ≡ row ++ v ∷ [] → PartsSoFar parts names i row → PartsSoFar parts names (i + 1) more
one_more_part parts names i part name row more v inside is within named same fixed put so_far =
    let next = take_more names i name within ∙ ap (λ n. take i names ++ n ∷ []) (sym named) in
    let zipped = zip-append (take i names) row name v (sym so_far.0) in (
      lengths next,
      λ w s.
          valued_next (entry_found w s) parts i part (zip (take i names) row) (name, v) inside is (so_far.1 w s)
          (ap (λ o. with_value o (λ u. Valued (part.name, u))) (fixed w s) ∙ ap (λ n. Valued (n, v)) same)
          ∙ ap Valued (sym zipped ∙ (λ j. zip (sym next j) (sym put j))),
    )
  where
    lengths : take (i + 1) names ≡ take i names ++ name ∷ [] → length more ≡ length (take (i + 1) names)
    lengths next =
        ap length put ∙ length-append row (v ∷ []) ∙ ap (λ n. n + 1) so_far.0 ∙ sym (length-append (take i names) (name ∷ [])) ∙ sym (ap length next)

-- names whose test tells that they differ, and does not
pub named_alike : (m n : List ℕ) (differ : Bool) → differ ≡ not (same_name m n) → differ ≡ false → m ≡ n
named_alike m n differ e alike = same_text m n (by_test (same_name m n) (sym e ∙ alike))
  where
    by_test : (b : Bool) → not b ≡ false → true ≡ b
    by_test true same = refl
    by_test false other = other

-- all of them
pub all_parts : (parts : List NamedExpr) (names : List (List ℕ)) (i : ℕ) (row : List Val) → length parts ≤ i → length parts ≡ length names
    → PartsSoFar parts names i row → EntriesAreFixed (named_view parts) (zip names row)
all_parts parts names i row past same so_far = λ w s.
    sym (entries_are w s parts) ∙ ap (λ ps. gathered (map (entry_found w s) ps)) (sym (take_all i parts past)) ∙ so_far.1 w s
    ∙ ap (λ ns. Valued (zip ns row)) (take_all i names (omega (arith, past, same)))

-- the tuple of the names with the values
pub placed_is : (names : List (List ℕ)) (row : List Val) → length row ≡ length names
    → placed_tuple (numbered_sources 0 names) (row ++ []) ≡ tuple_of (zip names row)
placed_is names row e = ap tuple_of (taken_numbered [] names row [] (sym e))

-- each of its values has a place
pub row_in_range : (names : List (List ℕ)) (row : List Val) (layout : Sources) → length row ≡ length names → IsPermutation (numbered_sources 0 names) layout
    → AreInRange layout (row ++ [])
row_in_range names row layout e p =
    layout_in_range (numbered_sources 0 names) layout (row ++ []) p
    (numbered_in_range 0 (length (row ++ [])) names (omega (arith, e, ap length (append-nil row))))

pub tuple_made : (names : List (List ℕ)) (row : List Val) → length row ≡ length names → are_distinct names ≡ true
    → tuple_from (zip names row) ≡ Valued (tuple_value (tuple_of (zip names row)))
tuple_made names row e distinct = rw (zip_names names row (sym e), distinct) refl

pub element_put : (parts : trees.NamedTrees) (tree : trees.Tree) (names : List (List ℕ)) (row : List Val) (before after : List Tuple)
    → tree ≡ trees.tuple parts → length row ≡ length names → are_distinct names ≡ true → EntriesAreFixed parts (zip names row)
    → after ≡ before ++ placed_tuple (numbered_sources 0 names) (row ++ []) ∷ [] → IsPut tree before after
element_put parts tree names row before after is e distinct fixed put = (
  tuple_of (zip names row),
  λ w s. ap (value_of w s) is ∙ ap (λ o. with_value o tuple_from) (fixed w s) ∙ tuple_made names row e distinct,
  put ∙ ap (λ t. before ++ t ∷ []) (placed_is names row e),
)

-- ---- the elements

abbrev pub ElementsSoFar : List Expr → ℕ → List Tuple → Type 0
ElementsSoFar elements i ts = (w : World) (s : List Tuple) → gathered (map (value_found w s) (take i elements)) ≡ Valued (map tuple_value ts)

pub one_more_element : (elements : List Expr) (i : ℕ) (element : Expr) (before after : List Tuple) → i < length elements → element ≡ get_or elements i element
    → IsPut (tree_view element) before after → ElementsSoFar elements i before → ElementsSoFar elements (i + 1) after
one_more_element elements i element before after inside is put so_far = λ w s.
    valued_next (value_found w s) elements i element (map tuple_value before) (tuple_value put.0) inside is (so_far w s) (put.1 w s)
    ∙ ap Valued (sym (map-append tuple_value before (put.0 ∷ [])) ∙ ap (map tuple_value) (sym put.2))

-- all of them
pub all_elements : (elements : List Expr) (i : ℕ) (ts : List Tuple) → length elements ≤ i → ElementsSoFar elements i ts → AreFixed (trees_view elements) (map tuple_value ts)
all_elements elements i ts past so_far = λ w s.
    sym (arguments_are w s elements) ∙ ap (λ es. gathered (map (value_found w s) es)) (sym (take_all i elements past)) ∙ so_far w s
