-- Relations that changed: the values in them are of their types.
use Rattle.std.proofs.Common.{◌≡◌, ◌∷◌, ◌++◌, Bool, true, false, List, [], refl, subst}
use Rattle.std.specs.Prelude.{filter, not}
use Rattle.std.specs.List.{AllByRecursion}
use Rattle.std.specs.declared.cmp.Ordering.{Ordering}
use Rattle.std.specs.declared.cmp.Ordering.TheVariants.{Less, Equal, Greater}
use Rattle.td_body.specs.model.Bodies.{after_change}
use Rattle.td_catalog.specs.model.TypedDatabases.{AreTyped}
use Rattle.td_types.specs.model.TypeLists.{DeclaredType}
use Rattle.td_types.specs.model.Types.{Attrs, pack}
use Rattle.td_value.specs.model.KnownValues.{HasHeading, HaveHeading}
use Rattle.td_value.specs.model.Sets.{has, with_item_placed, put_in, set_of}
use Rattle.td_value.specs.model.Values.{Relation, Tuple, pack_fields, pack_rows, tuple_cmp}

-- ---- what holds of each item

module _ {A : Type 0} (P : A → Type 0) where
  all_filtered : (p : A → Bool) (xs : List A) → AllByRecursion P xs → AllByRecursion P (filter p xs)
  all_filtered p [] h = tt
  all_filtered p (x ∷ xs) h = by_test (p x) refl (all_filtered p xs h.1)
    where
      by_test : (b : Bool) → p x ≡ b → AllByRecursion P (filter p xs) → AllByRecursion P (filter p (x ∷ xs))
      by_test true is rest = rw is (h.0, rest)
      by_test false is rest = rw is rest

  all_joined : (xs ys : List A) → AllByRecursion P xs → AllByRecursion P ys → AllByRecursion P (xs ++ ys)
  all_joined [] ys h k = k
  all_joined (x ∷ xs) ys h k = (h.0, all_joined xs ys h.1 k)

  module _ (R : A → A → Ordering) where
    all_put : (x : A) (xs : List A) → P x → AllByRecursion P xs → AllByRecursion P (put_in R x xs)
    all_put x [] p h = (p, tt)
    all_put x (y ∷ ys) p h = by_order (R x y) (all_put x ys p h.1)
      where
        by_order : (o : Ordering) → AllByRecursion P (put_in R x ys) → AllByRecursion P (with_item_placed o x y ys (put_in R x ys))
        by_order Less rest = (p, h)
        by_order Equal rest = h
        by_order Greater rest = (h.0, rest)

    all_in_set : (xs : List A) → AllByRecursion P xs → AllByRecursion P (set_of R xs)
    all_in_set [] h = tt
    all_in_set (x ∷ xs) h = all_put x (set_of R xs) h.0 (all_in_set xs h.1)

-- ---- tuples of a heading

rows_each : (ds : List DeclaredType) (ts : List Tuple) (h : Attrs) → HaveHeading ds (pack_rows ts) h → AllByRecursion (λ (t : Tuple). HasHeading ds (pack_fields t) h) ts
rows_each ds [] h k = tt
rows_each ds (t ∷ ts) h k = (k.0, rows_each ds ts h k.1)

each_rows : (ds : List DeclaredType) (ts : List Tuple) (h : Attrs) → AllByRecursion (λ (t : Tuple). HasHeading ds (pack_fields t) h) ts → HaveHeading ds (pack_rows ts) h
each_rows ds [] h k = tt
each_rows ds (t ∷ ts) h k = (k.0, each_rows ds ts h k.1)

-- a relation is typed after a change where it was before, and what is put in is
pub typed_after_change : (ds : List DeclaredType) (out add r : Relation) → add.heading ≡ r.heading → AreTyped ds r → AreTyped ds add → AreTyped ds (after_change out add r)
typed_after_change ds out add r headed was new =
    let h = pack r.heading in
    let P = λ (t : Tuple). HasHeading ds (pack_fields t) h in
    let left = filter (λ (t : Tuple). not (has tuple_cmp t out.body)) r.body in
    let put = rows_each ds add.body h (subst (λ g. HaveHeading ds (pack_rows add.body) (pack g)) headed new) in
    each_rows ds (set_of tuple_cmp (left ++ add.body)) h
    (all_in_set P tuple_cmp (left ++ add.body) (all_joined P left add.body (all_filtered P (λ (t : Tuple). not (has tuple_cmp t out.body)) r.body (rows_each ds r.body h was)) put))
