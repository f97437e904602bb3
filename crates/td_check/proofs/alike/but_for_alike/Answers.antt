use Rattle.std.proofs.Common.{◌≡◌, ◌∙◌, ◌≤◌, ◌-◌, List, [], ◌∷◌, ap, arith, drop, get_or, length, refl, subst, sym, take}
use Rattle.td_check.specs.code.Alike.{AreLikeTuples}
use Rattle.td_check.proofs.AlikeLaws.{all_are_enough, enough_of_alike}
use Rattle.std.proofs.lemmas.List.{length-drop, take_all}
use Rattle.td_tree.specs.model.Trees.{more, none, tuple}
use Rattle.td_tree.specs.code.TreeViews.{named_view, tree_view, trees_view}
use Rattle.td_tree.proofs.code_lemmas.Rows.{tuple_is}
use Rattle.td_check.proofs.alike.but_for_alike.Goals as goal

-- the first of a list, and the others
front : {X : Type 0} (xs : List X) (x : X) → 1 ≤ length xs → x ≡ get_or xs 0 x → (xs ≡ x ∷ drop 1 xs) × (take 1 xs ≡ x ∷ [])
front [] x e p = absurd (omega (arith, e))
front (y ∷ ys) x e p = (ap (λ z. z ∷ ys) (sym p), ap (λ z. z ∷ []) (sym p))

module _ (c : goal.Then-are_like_tuples) where
  first_is : tree_view c.first-item.result ≡ tuple (named_view c.in-Tuple.parts.items)
  first_is = ap tree_view c.in-Tuple.is ∙ tuple_is c.in-Tuple.parts

  all : trees_view c.args.elements.now ≡ more (tuple (named_view c.in-Tuple.parts.items)) (trees_view (drop 1 c.args.elements.now))
  all = ap trees_view (front c.args.elements.now c.first-item.result c.in-len1-up.len_at_least c.first-item.is).0 ∙ ap (λ t. more t (trees_view (drop 1 c.args.elements.now))) first_is

  one : trees_view (take 1 c.args.elements.now) ≡ more (tuple (named_view c.in-Tuple.parts.items)) none
  one = ap trees_view (front c.args.elements.now c.first-item.result c.in-len1-up.len_at_least c.first-item.is).1 ∙ ap (λ t. more t none) first_is

  like : AreLikeTuples (named_view c.in-Tuple.parts.items) (trees_view (drop 1 c.args.elements.now))
  like =
      let left = length-drop 1 c.args.elements.now in
      subst (λ ps. AreLikeTuples (named_view ps) (trees_view (drop 1 c.args.elements.now))) c.deref.ensures.value
      (subst (λ ts. AreLikeTuples (named_view c.deref.result.now) (trees_view ts)) (take_all (length c.args.elements.now - 1) (drop 1 c.args.elements.now) (omega (arith, left))) (c.if-are_like_tuples.ensures refl))

pub returns-then-are_like_tuples-clause-front : goal.returns-then-are_like_tuples-clause-front
returns-then-are_like_tuples-clause-front c = (1, refl)

pub returns-then-are_like_tuples-clause-enough : goal.returns-then-are_like_tuples-clause-enough
returns-then-are_like_tuples-clause-enough c =
    rw (all c, one c) (enough_of_alike (named_view c.in-Tuple.parts.items) (trees_view (drop 1 c.args.elements.now)) (like c))

pub returns-else-are_like_tuples-clause-front : goal.returns-else-are_like_tuples-clause-front
returns-else-are_like_tuples-clause-front c = (length c.args.elements.now, sym (take_all (length c.args.elements.now) c.args.elements.now (omega arith)))

pub returns-else-are_like_tuples-clause-enough : goal.returns-else-are_like_tuples-clause-enough
returns-else-are_like_tuples-clause-enough c = all_are_enough _

pub returns-in_default-first : goal.returns-in_default-first
returns-in_default-first c =
    record { front = (length c.args.elements.now, sym (take_all (length c.args.elements.now) c.args.elements.now (omega arith))); enough = all_are_enough _ }

pub returns-in_default : goal.returns-in_default
returns-in_default c =
    record { front = (length c.args.elements.now, sym (take_all (length c.args.elements.now) c.args.elements.now (omega arith))); enough = all_are_enough _ }
