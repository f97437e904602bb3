-- One more child at the end.
use Rattle.std.proofs.Common.{◌≡◌, ℕ, ◌+◌, ◌<◌, List, [], ◌∷◌, ◌++◌, refl, sym, ap, ◌∙◌, length, get_or, take}
use Rattle.std.proofs.lemmas.List.{take_more}
use Rattle.td_tree.specs.declared.expression.Expr.{Expr}
use Rattle.td_tree.specs.declared.expression.NamedExpr.{NamedExpr}
use Rattle.td_tree.specs.declared.expression.Summary.{Summary}
use Rattle.td_tree.specs.declared.expression.Summary.TheVariants as s
use Rattle.td_tree.specs.declared.type_tree.AttributeTree.{AttributeTree}
use Rattle.td_tree.specs.code.TreeViews.{heading_tree_view, named_view, summaries_view, tree_view, trees_view, type_tree_view, with_summary}
use Rattle.td_tree.specs.model.Trees.{AttributeTrees, no_attributes, attribute, Trees, none, more, NamedTrees, none_named, more_named, Summaries, no_summaries, counted, summed}

-- a copy of the items so far, and then of one more
pub one_more : {X Y : Type 0} (f : List X → Y) (part : X → Y) (push : Y → Y → Y) → ((v : List X) (x : X) → f (v ++ (x ∷ [])) ≡ push (f v) (part x))
    → (xs copy : List X) (i : ℕ) (x a : X) → f copy ≡ f (take i xs) → i < length xs → x ≡ get_or xs i x → part a ≡ part x
    → f (copy ++ (a ∷ [])) ≡ f (take (i + 1) xs)
one_more f part push pushed xs copy i x a so_far inside is same =
    pushed copy a ∙ ap (λ y. push y (part a)) so_far ∙ ap (push (f (take i xs))) same ∙ sym (pushed (take i xs) x)
    ∙ ap (λ z. f (take i xs ++ (z ∷ []))) is ∙ sym (ap f (take_more xs i x inside))

-- ---- names with types

abbrev pub one_attribute : AttributeTree → AttributeTrees
one_attribute a = attribute a.name (type_tree_view a.ty) no_attributes

abbrev pub then_attributes : AttributeTrees → AttributeTrees → AttributeTrees
then_attributes no_attributes later = later
then_attributes (attribute n ty rest) later = attribute n ty (then_attributes rest later)

pub heading_push : (v : List AttributeTree) (a : AttributeTree) → heading_tree_view (v ++ (a ∷ [])) ≡ then_attributes (heading_tree_view v) (one_attribute a)
heading_push [] a = refl
heading_push (b ∷ v) a = ap (λ (r : AttributeTrees). attribute b.name (type_tree_view b.ty) r) (heading_push v a)

-- ---- expressions

abbrev pub one_tree : Expr → Trees
one_tree e = more (tree_view e) none

abbrev pub then_trees : Trees → Trees → Trees
then_trees none later = later
then_trees (more first rest) later = more first (then_trees rest later)

pub trees_push : (v : List Expr) (e : Expr) → trees_view (v ++ (e ∷ [])) ≡ then_trees (trees_view v) (one_tree e)
trees_push [] e = refl
trees_push (first ∷ v) e = ap (λ (r : Trees). more (tree_view first) r) (trees_push v e)

-- ---- expressions with their names

abbrev pub one_named : NamedExpr → NamedTrees
one_named p = more_named p.name (tree_view p.value) none_named

abbrev pub then_named : NamedTrees → NamedTrees → NamedTrees
then_named none_named later = later
then_named (more_named n first rest) later = more_named n first (then_named rest later)

pub named_push : (v : List NamedExpr) (p : NamedExpr) → named_view (v ++ (p ∷ [])) ≡ then_named (named_view v) (one_named p)
named_push [] p = refl
named_push (first ∷ v) p = ap (λ (r : NamedTrees). more_named first.name (tree_view first.value) r) (named_push v p)

-- ---- what SUMMARIZE adds

abbrev pub one_summary : Summary → Summaries
one_summary x = with_summary x no_summaries

abbrev pub then_summaries : Summaries → Summaries → Summaries
then_summaries no_summaries later = later
then_summaries (counted n rest) later = counted n (then_summaries rest later)
then_summaries (summed op value n rest) later = summed op value n (then_summaries rest later)

then_first : (x : Summary) (rest later : Summaries) → then_summaries (with_summary x rest) later ≡ with_summary x (then_summaries rest later)
then_first (s.Count n) rest later = refl
then_first (s.Of op value n) rest later = refl

pub summaries_push : (v : List Summary) (x : Summary) → summaries_view (v ++ (x ∷ [])) ≡ then_summaries (summaries_view v) (one_summary x)
summaries_push [] x = refl
summaries_push (first ∷ v) x =
    ap (λ (r : Summaries). with_summary first r) (summaries_push v x) ∙ sym (then_first first (summaries_view v) (one_summary x))
