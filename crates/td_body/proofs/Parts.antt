-- Tuples that agree with a part on a key's names, by their values at the places of these names.
use Rattle.std.proofs.Common.{◌≡◌, ◌∙◌, ◌∷◌, ℕ, suc, Bool, true, false, cond, List, [], Some, ap, arith, filter, length, map, refl, sym, subst, true≢false}
use Rattle.std.specs.Prelude.{◌&&◌}
use Rattle.std.specs.declared.cmp.Ordering.{Ordering}
use Rattle.std.specs.declared.cmp.Ordering.TheVariants.{Less, Equal, Greater}
use Rattle.std.specs.List.{All, list_all}
use Rattle.std.specs.Ordering.{is_eq, ordering_reverse}
use Rattle.std.proofs.lemmas.List.{length-map}
use Rattle.td_types.specs.model.Headings.{has_name, projection}
use Rattle.td_types.specs.model.Types.{Heading, attribute_names}
use Rattle.td_value.specs.model.Agreement.{agree_on}
use Rattle.td_value.specs.model.Values.{Tuple, IsTupleOf, heading_of, projected_tuple, tuple_cmp, tuple_names, type_of}
use Rattle.td_value.specs.code.ValueOrder.{tuple_order_total}
use Rattle.td_value.specs.code.Views.{values_of}
use Rattle.td_value.proofs.Rows.{parts_order-lists, tuple_order-by_values}
use Rattle.td_body.specs.code.KeyParts.{places_from, tuple_values_at, values_cmp}
use Rattle.td_body.proofs.KeyParts.{all_found, found_order, values_at-part}

pub names-heading : (t : Tuple) → attribute_names (heading_of t) ≡ tuple_names t
names-heading [] = refl
names-heading (e ∷ t) = ap (λ ns. e.0 ∷ ns) (names-heading t)

-- tuples of one heading have the same names
pub one_names : (h : Heading) (s t : Tuple) → IsTupleOf h s → IsTupleOf h t → tuple_names s ≡ tuple_names t
one_names h s t is as_well = sym (names-heading s) ∙ ap attribute_names (is.1 ∙ sym as_well.1) ∙ names-heading t

turned : (o : Ordering) → is_eq (ordering_reverse o) ≡ is_eq o
turned Less = refl
turned Equal = refl
turned Greater = refl

module _ (key : List (List ℕ)) where
  heading-part : (t : Tuple) → heading_of (projected_tuple key t) ≡ projection key (heading_of t)
  heading-part [] = refl
  heading-part (e ∷ t) = by_test (heading-part t) (has_name e.0 key)
    where
      by_test : heading_of (projected_tuple key t) ≡ projection key (heading_of t) → (b : Bool)
          → heading_of (cond b (e ∷ projected_tuple key t) (projected_tuple key t)) ≡ cond b ((e.0, type_of e.1) ∷ projection key (heading_of t)) (projection key (heading_of t))
      by_test later true = ap (λ h. (e.0, type_of e.1) ∷ h) later
      by_test later false = later

  all_in_key : (h : Heading) → list_all (λ n. has_name n key) (attribute_names (projection key h)) ≡ true
  all_in_key [] = refl
  all_in_key (a ∷ h) = by_test (all_in_key h) (has_name a.0 key) refl
    where
      by_test : list_all (λ n. has_name n key) (attribute_names (projection key h)) ≡ true → (b : Bool) → has_name a.0 key ≡ b
          → list_all (λ n. has_name n key) (attribute_names (cond b (a ∷ projection key h) (projection key h))) ≡ true
      by_test later true e = rw e later
      by_test later false e = later

  kept_whole : (t : Tuple) → list_all (λ n. has_name n key) (tuple_names t) ≡ true → projected_tuple key t ≡ t
  kept_whole [] h = refl
  kept_whole (e ∷ t) h = by_test (kept_whole t) (has_name e.0 key) h
    where
      by_test : (list_all (λ n. has_name n key) (tuple_names t) ≡ true → projected_tuple key t ≡ t) → (b : Bool)
          → (b && list_all (λ n. has_name n key) (tuple_names t)) ≡ true → cond b (e ∷ projected_tuple key t) (projected_tuple key t) ≡ e ∷ t
      by_test later true h = ap (λ r. e ∷ r) (later h)
      by_test later false h = absurd (true≢false (sym h))

  module _ (heading : Heading) (part : Tuple) (is : heading_of part ≡ projection key heading) where
    -- a part is its own projection
    part_whole : projected_tuple key part ≡ part
    part_whole = kept_whole part (subst (λ ns. list_all (λ n. has_name n key) ns ≡ true) (sym (ap attribute_names is) ∙ names-heading part) (all_in_key heading))

    module _ (t : Tuple) (has_heading : IsTupleOf heading t) where
      same_heading : heading_of (projected_tuple key t) ≡ heading_of part
      same_heading = heading-part t ∙ ap (projection key) has_heading.1 ∙ sym is

      same_names : tuple_names (projected_tuple key t) ≡ tuple_names part
      same_names = sym (names-heading (projected_tuple key t)) ∙ ap attribute_names same_heading ∙ names-heading part

      -- there are as many places of the key's names as values of the part
      pub as_many : length (places_from 0 key (tuple_names t)) ≡ length (values_of part)
      as_many =
          sym (length-map (places_from 0 key (tuple_names t)) _) ∙ ap length (values_at-part key t) ∙ length-map (values_of (projected_tuple key t)) Some
          ∙ length-map (projected_tuple key t) (λ e. e.1) ∙ sym (length-map (projected_tuple key t) (λ e. e.0)) ∙ ap length same_names
          ∙ length-map part (λ e. e.0) ∙ sym (length-map part (λ e. e.1))

      -- a tuple agrees with the part where its values at the places are the part's
      pub agrees : (ns : List (List ℕ)) → tuple_names t ≡ ns → is_eq (values_cmp (places_from 0 key ns) t (values_of part)) ≡ agree_on key part t
      agrees ns names =
          let values = subst (λ ms. tuple_values_at (places_from 0 key ms) t ≡ map Some (values_of (projected_tuple key t))) names (values_at-part key t) in
          let compared = ap (λ vs. found_order vs (map Some (values_of part))) values ∙ all_found (values_of (projected_tuple key t)) (values_of part)
          ∙ sym (tuple_order-by_values (projected_tuple key t) part same_names ∙ parts_order-lists (values_of (projected_tuple key t)) (values_of part)) in
          ap is_eq compared ∙ ap is_eq (tuple_order_total.antisymm (projected_tuple key t) part) ∙ turned (tuple_cmp part (projected_tuple key t))
          ∙ ap (λ p. is_eq (tuple_cmp p (projected_tuple key t))) (sym part_whole)

    -- so of tuples of the heading
    pub filter-agreeing : (ns : List (List ℕ)) (ts : List Tuple) → All (IsTupleOf heading) ts → All (λ t. tuple_names t ≡ ns) ts
        → filter (λ t. is_eq (values_cmp (places_from 0 key ns) t (values_of part))) ts ≡ filter (agree_on key part) ts
    filter-agreeing ns [] headed names = refl
    filter-agreeing ns (t ∷ ts) headed names =
        rw (agrees t (headed 0 t (omega arith)) ns (names 0 t (omega arith)))
        (ap (λ rest. cond (agree_on key part t) (t ∷ rest) rest) (filter-agreeing ns ts (λ k d l. headed (suc k) d (omega arith)) (λ k d l. names (suc k) d (omega arith))))
