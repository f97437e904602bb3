-- The projection on as many attributes as there are is the relation itself.
use Rattle.std.proofs.Common.{◌≡◌, ◌∙◌, ◌≤◌, ap, arith, sym, refl, subst, suc, ℕ, Bool, true, false, List, [], ◌∷◌, length, map}
use Rattle.std.specs.Prelude.{filter, if◌then◌else◌}
use Rattle.std.specs.List.{All, AllByRecursion}
use Rattle.std.proofs.lemmas.List.{length-map}
use Rattle.std.proofs.lemmas.List.Elements.{recursion_from_All}
use Rattle.td_types.specs.model.Headings.{has_name, projection}
use Rattle.td_types.specs.model.Types.{Heading}
use Rattle.td_value.specs.model.Sets.{set_of}
use Rattle.td_value.specs.code.ValueOrder.{tuple_order_same, tuple_order_total}
use Rattle.td_value.specs.model.Values.{IsAscendingBody, IsTupleOf, Relation, Tuple, heading_of, projected_tuple, tuple_cmp, type_of, relation_view}
use Rattle.td_value.proofs.SetLaws.{is_set_of}
use Rattle.td_algebra.proofs.Lookups.{kept_fewer}
use Rattle.td_algebra.specs.model.Operators.{projected_relation}

-- of a list with as many items as are kept, all are
all_stay : {X : Type 0} (p : X → Bool) (xs : List X) → length (filter p xs) ≡ length xs → filter p xs ≡ xs
all_stay p [] e = refl
all_stay p (x ∷ xs) e = by_test (p x) (all_stay p xs) (kept_fewer p xs) e
  where
    by_test : (b : Bool) → (length (filter p xs) ≡ length xs → filter p xs ≡ xs) → length (filter p xs) ≤ length xs
        → length (if b then x ∷ filter p xs else filter p xs) ≡ length (x ∷ xs) → (if b then x ∷ filter p xs else filter p xs) ≡ x ∷ xs
    by_test true rest few e = ap (λ ys. x ∷ ys) (rest (omega arith))
    by_test false rest few e = absurd (omega arith)

-- as many entries as attributes have such a name
as_many : (p : List ℕ → Bool) (t : Tuple) → length (filter (λ e. p e.0) t) ≡ length (filter (λ a. p a.0) (heading_of t))
as_many p [] = refl
as_many p (e ∷ t) = by_test (p e.0) (as_many p t)
  where
    by_test : (b : Bool) → length (filter (λ e. p e.0) t) ≡ length (filter (λ a. p a.0) (heading_of t))
        → length (if b then e ∷ filter (λ e. p e.0) t else filter (λ e. p e.0) t) ≡ length (if b then (e.0, type_of e.1) ∷ filter (λ a. p a.0) (heading_of t) else filter (λ a. p a.0) (heading_of t))
    by_test true h = ap suc h
    by_test false h = h

module _ (names : List (List ℕ)) (h : Heading) (all : length (projection names h) ≡ length h) where
  tuple_stays : (t : Tuple) → IsTupleOf h t → projected_tuple names t ≡ t
  tuple_stays t of =
      let there = subst (λ g. length (projection names g) ≡ length g) (sym of.1) all in
      all_stay (λ e. has_name e.0 names) t (as_many (λ n. has_name n names) t ∙ there ∙ length-map t _)

  tuples_stay : (ts : List Tuple) → AllByRecursion (IsTupleOf h) ts → map (projected_tuple names) ts ≡ ts
  tuples_stay [] a = refl
  tuples_stay (t ∷ ts) a = λ i. tuple_stays t a.0 i ∷ tuples_stay ts a.1 i

-- a relation is its projection on as many names of attributes as it has
pub projection_whole : (names : List (List ℕ)) (r : Relation) → length (projection names r.heading) ≡ length r.heading
    → All (IsTupleOf r.heading) r.body → IsAscendingBody r.body → r ≡ projected_relation names r
projection_whole names r all headed ascending =
    let heading = all_stay (λ a. has_name a.0 names) r.heading all in
    let tuples = tuples_stay names r.heading all r.body (recursion_from_All (IsTupleOf r.heading) r.body headed) in
    let body = is_set_of tuple_cmp tuple_order_total tuple_order_same r.body r.body ascending (λ t. refl) in
    λ i. relation_view (sym heading i) ((body ∙ ap (set_of tuple_cmp) (sym tuples)) i)
