-- Tuples of the same names agree on a key exactly where their values at the places of its names tie.
use Rattle.std.proofs.Common.{◌≡◌, ◌∙◌, ◌∷◌, ◌+◌, ℕ, suc, Bool, true, false, cond, List, [], Option, Some, add-one, ap, arith, filter, map, refl, sym, subst}
use Rattle.std.specs.Prelude.{not, ◌&&◌, ◌||◌}
use Rattle.std.specs.declared.cmp.Ordering.{Ordering}
use Rattle.std.specs.Cmp.{IsTotalOrder}
use Rattle.std.specs.Cmp.Lexicographic.{options_total, slice_cmp}
use Rattle.std.specs.List.{All, list_any, slice_get}
use Rattle.std.specs.Option.{option_cmp}
use Rattle.std.specs.Ordering.{is_eq, ordering_then}
use Rattle.std.proofs.lemmas.Cmp.{lists_total}
use Rattle.td_types.specs.model.Headings.{has_name}
use Rattle.td_value.specs.model.Values.{Tuple, Val, projected_tuple, tuple_names, value_cmp, tuple_cmp}
use Rattle.td_value.specs.code.ValueOrder.{order_total}
use Rattle.td_value.specs.code.Views.{values_of}
use Rattle.td_value.proofs.Rows.{parts_order-lists, tuple_order-by_values}
use Rattle.td_value.specs.model.Agreement.{agree_on}
use Rattle.td_body.specs.model.Bodies.{key_holds}
use Rattle.td_body.specs.code.KeyParts.{apart_at, by_places, places_from, tuple_values_at}
use Rattle.td_body.proofs.Apart.{apart, ties}

abbrev pub found_order : List (Option Val) → List (Option Val) → Ordering
found_order = slice_cmp (option_cmp value_cmp)

pub found_order_total : IsTotalOrder found_order
found_order_total = lists_total (options_total order_total)

-- no two of the tuples tie by their values at the places exactly where none do at the places
pub apart-at : (places : List ℕ) (ts : List Tuple) → apart found_order found_order_total (tuple_values_at places) ts ≡ apart_at places ts
apart-at places [] = refl
apart-at places (t ∷ ts) = ap (λ b. not (list_any (λ u. is_eq (by_places places t u)) ts) && b) (apart-at places ts)

next_places : (i : ℕ) (key ns : List (List ℕ)) → places_from (suc i) key ns ≡ map suc (places_from i key ns)
next_places i key [] = refl
next_places i key (n ∷ ns) = by_test (rw (add-one (suc i), add-one i) (next_places (suc i) key ns)) (has_name n key)
  where
    by_test : places_from (suc i + 1) key ns ≡ map suc (places_from (i + 1) key ns) → (b : Bool)
        → cond b (suc i ∷ places_from (suc i + 1) key ns) (places_from (suc i + 1) key ns) ≡ map suc (cond b (i ∷ places_from (i + 1) key ns) (places_from (i + 1) key ns))
    by_test later true = ap (λ r. suc i ∷ r) later
    by_test later false = later

past_first : (v : Val) (vs : List Val) (ps : List ℕ) → map (slice_get (v ∷ vs)) (map suc ps) ≡ map (slice_get vs) ps
past_first v vs [] = refl
past_first v vs (p ∷ ps) = ap (λ r. slice_get vs p ∷ r) (past_first v vs ps)

-- the values at the key's places are those of the part
pub values_at-part : (key : List (List ℕ)) (t : Tuple) → tuple_values_at (places_from 0 key (tuple_names t)) t ≡ map Some (values_of (projected_tuple key t))
values_at-part key [] = refl
values_at-part key (e ∷ t) =
    by_test (ap (map (slice_get (values_of (e ∷ t)))) (next_places 0 key (tuple_names t)) ∙ past_first e.1 (values_of t) (places_from 0 key (tuple_names t)) ∙ values_at-part key t) (has_name e.0 key)
  where
    by_test : map (slice_get (values_of (e ∷ t))) (places_from 1 key (tuple_names t)) ≡ map Some (values_of (projected_tuple key t)) → (b : Bool) → map (slice_get (values_of (e ∷ t))) (cond b (0 ∷ places_from 1 key (tuple_names t)) (places_from 1 key (tuple_names t)))
        ≡ map Some (values_of (cond b (e ∷ projected_tuple key t) (projected_tuple key t)))
    by_test later true = ap (λ r. Some e.1 ∷ r) later
    by_test later false = later

pub names_of-part : (key : List (List ℕ)) (t : Tuple) → tuple_names (projected_tuple key t) ≡ filter (λ n. has_name n key) (tuple_names t)
names_of-part key [] = refl
names_of-part key (e ∷ t) = by_test (names_of-part key t) (has_name e.0 key)
  where
    by_test : tuple_names (projected_tuple key t) ≡ filter (λ n. has_name n key) (tuple_names t) → (b : Bool) → tuple_names (cond b (e ∷ projected_tuple key t) (projected_tuple key t)) ≡ cond b (e.0 ∷ filter (λ n. has_name n key) (tuple_names t)) (filter (λ n. has_name n key) (tuple_names t))
    by_test later true = ap (λ r. e.0 ∷ r) later
    by_test later false = later

pub all_found : (vs ws : List Val) → found_order (map Some vs) (map Some ws) ≡ slice_cmp value_cmp vs ws
all_found [] [] = refl
all_found [] (w ∷ ws) = refl
all_found (v ∷ vs) [] = refl
all_found (v ∷ vs) (w ∷ ws) = ap (ordering_then (value_cmp v w)) (all_found vs ws)

-- by their values at the places tuples compare as their parts do
pub by_places-parts : (key ns : List (List ℕ)) (s t : Tuple) → tuple_names s ≡ ns → tuple_names t ≡ ns → by_places (places_from 0 key ns) s t ≡ tuple_cmp (projected_tuple key s) (projected_tuple key t)
by_places-parts key ns s t p q =
    let first : tuple_values_at (places_from 0 key ns) s ≡ map Some (values_of (projected_tuple key s)) = subst (λ ms. tuple_values_at (places_from 0 key ms) s ≡ map Some (values_of (projected_tuple key s))) p (values_at-part key s) in
    let second : tuple_values_at (places_from 0 key ns) t ≡ map Some (values_of (projected_tuple key t)) = subst (λ ms. tuple_values_at (places_from 0 key ms) t ≡ map Some (values_of (projected_tuple key t))) q (values_at-part key t) in
    let names : tuple_names (projected_tuple key s) ≡ tuple_names (projected_tuple key t) = names_of-part key s ∙ ap (filter (λ n. has_name n key)) (p ∙ sym q) ∙ sym (names_of-part key t) in
    rw (first, second) (all_found (values_of (projected_tuple key s)) (values_of (projected_tuple key t)))
    ∙ sym (tuple_order-by_values (projected_tuple key s) (projected_tuple key t) names ∙ parts_order-lists (values_of (projected_tuple key s)) (values_of (projected_tuple key t)))

module _ (key ns : List (List ℕ)) where
  abbrev there : List ℕ
  there = places_from 0 key ns

  any_agree : (t : Tuple) (ts : List Tuple) → tuple_names t ≡ ns → All (λ u. tuple_names u ≡ ns) ts → list_any (ties found_order found_order_total (tuple_values_at there) t) ts ≡ list_any (agree_on key t) ts
  any_agree t [] p all = refl
  any_agree t (u ∷ ts) p all =
      let here : is_eq (by_places there t u) ≡ agree_on key t u = ap is_eq (by_places-parts key ns t u p (all 0 u (omega arith))) in
      rw here (ap (λ b. agree_on key t u || b) (any_agree t ts p (λ k d l. all (suc k) d (omega arith))))

  -- no two of the tuples tie at the key's places exactly where the key holds
  pub apart_at-key : (ts : List Tuple) → All (λ u. tuple_names u ≡ ns) ts → apart_at there ts ≡ key_holds key ts
  apart_at-key [] all = refl
  apart_at-key (t ∷ ts) all =
      let rest : All (λ u. tuple_names u ≡ ns) ts = λ k d l. all (suc k) d (omega arith) in
      rw (any_agree t ts (all 0 t (omega arith)) rest) (ap (λ b. not (list_any (agree_on key t) ts) && b) (apart_at-key ts rest))
