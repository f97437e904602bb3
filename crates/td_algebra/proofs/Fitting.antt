-- One thing for each tuple of a relation is what a function gives of the tuples: it looks the thing up by the tuple.
use Rattle.std.proofs.Common.{◌≡◌, ◌∙◌, ap, arith, cond, refl, sym, List, [], ◌∷◌, false, length, map}
use Rattle.std.specs.declared.cmp.Ordering.TheVariants.{Less, Greater}
use Rattle.std.specs.Ordering.{eq_by_cmp, ordering_reverse}
use Rattle.std.specs.List.{AllByRecursion}
use Rattle.std.specs.List.Sorted.{IsStrictlySortedBy}
use Rattle.std.proofs.lemmas.Cmp.{tied_itself}
use Rattle.std.proofs.lemmas.List.Elements.{recursion_from_All}
use Rattle.td_value.specs.model.Values.{Tuple, boolean, tuple_cmp}
use Rattle.td_value.specs.code.ValueOrder.{tuple_order_total}
use Rattle.td_algebra.specs.code.Columns.{AreColumnsOf, IsColumn, NamedColumn}
use Rattle.td_algebra.specs.laws.Fitting.{ListsAreOfFunctions}
use Rattle.td_algebra.specs.model.Operators.{Addition}
use Rattle.td_algebra.proofs.Relations.{rows_ascend}

module _ {X : Type 0} (other : X) where
  -- what stands at the tuple's place
  look_up : Tuple → List Tuple → List X → X
  look_up t [] xs = other
  look_up t (u ∷ us) [] = other
  look_up t (u ∷ us) (x ∷ xs) = cond (eq_by_cmp tuple_cmp t u) x (look_up t us xs)

  look_further : (u : Tuple) (us : List Tuple) (x : X) (xs : List X) (ts : List Tuple) → AllByRecursion (λ t. tuple_cmp u t ≡ Less) ts
      → map (λ t. look_up t (u ∷ us) (x ∷ xs)) ts ≡ map (λ t. look_up t us xs) ts
  unfolding look_up
  look_further u us x xs [] h = refl
  look_further u us x xs (t ∷ ts) h =
      let above : tuple_cmp t u ≡ Greater = tuple_order_total.antisymm t u ∙ ap ordering_reverse h.0 in
      let further : look_up t (u ∷ us) (x ∷ xs) ≡ look_up t us xs = rw above refl in
      λ i. further i ∷ look_further u us x xs ts h.1 i

  looked_up : (ts : List Tuple) (xs : List X) → IsStrictlySortedBy tuple_cmp ts → length xs ≡ length ts → map (λ t. look_up t ts xs) ts ≡ xs
  unfolding look_up IsStrictlySortedBy
  looked_up [] [] h e = refl
  looked_up [] (x ∷ xs) h e = absurd (omega (arith, e))
  looked_up (t ∷ ts) [] h e = absurd (omega (arith, e))
  looked_up (t ∷ ts) (x ∷ xs) h e =
      let here : look_up t (t ∷ ts) (x ∷ xs) ≡ x = rw (tied_itself tuple_order_total t) refl in
      let rest = look_further t ts x xs ts h.0 ∙ looked_up ts xs h.1 (omega (arith, e)) in
      λ i. here i ∷ rest i

-- the new attributes of columns
pub additions_of : List NamedColumn → List Tuple → List Addition
additions_of [] ts = []
additions_of (c ∷ cs) ts = record { name = c.0; kind = c.1; value = λ t. look_up (boolean false) t ts c.2 } ∷ additions_of cs ts

pub columns_of_additions : (cs : List NamedColumn) (ts : List Tuple) → IsStrictlySortedBy tuple_cmp ts → AllByRecursion (λ c. IsColumn c.1 c.2 ts) cs
    → AreColumnsOf cs ts (additions_of cs ts)
unfolding additions_of
columns_of_additions [] ts up h = refl
columns_of_additions (c ∷ cs) ts up h =
    let values = looked_up (boolean false) ts c.2 up h.0.0 in
    let rest = columns_of_additions cs ts up h.1 in
    λ i. (c.0, c.1, sym values i) ∷ rest i

pub are_of_functions : ListsAreOfFunctions
are_of_functions = record {
  masks = λ r mask p e. (λ t. look_up false t r.body mask, sym (looked_up false r.body mask (rows_ascend r p) e));
  values = λ r values p e. (λ t. look_up (boolean false) t r.body values, sym (looked_up (boolean false) r.body values (rows_ascend r p) e));
  columns =
      λ r cs p fit.
      (additions_of cs r.body, columns_of_additions cs r.body (rows_ascend r p) (recursion_from_All (λ c. IsColumn c.1 c.2 r.body) cs fit));
}
