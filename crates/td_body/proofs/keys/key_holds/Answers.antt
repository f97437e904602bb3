use Rattle.std.proofs.Common.{◌≡◌, ◌∙◌, ℕ, Bool, true, false, List, ap, subst, sym}
use Rattle.std.specs.List.{All, IsAllAdjacentAnswer, slice_get}
use Rattle.std.specs.List.Sorted.{IsPermutation, IsSortedBy}
use Rattle.std.specs.Ordering.{is_lt}
use Rattle.std.specs.Prelude.{Some}
use Rattle.td_value.specs.model.Values.{Tuple, tuple_names}
use Rattle.td_body.specs.model.Bodies.{key_holds}
use Rattle.td_body.specs.code.KeyParts.{apart_at, by_places, places_from, tuple_values_at}
use Rattle.td_body.proofs.FirstNames.{names_all}
use Rattle.td_body.proofs.Apart.{apart_falling, apart_permuted, apart_rising}
use Rattle.td_body.proofs.KeyParts.{apart-at, apart_at-key, found_order, found_order_total}
use Rattle.td_body.proofs.keys.key_holds.Goals as goal

-- what ascends at the key's places has no two that agree on the key
is_apart : (key ns : List (List ℕ)) (rows : List Tuple) (places : List ℕ) (b : Bool) → places ≡ places_from 0 key ns → All (λ t. tuple_names t ≡ ns) rows
    → IsAllAdjacentAnswer (λ s t b. b ≡ is_lt (by_places places s t)) rows b → b ≡ true → true ≡ key_holds key rows
is_apart key ns rows places true is names h e =
    sym (apart_rising found_order found_order_total (tuple_values_at places) rows h) ∙ apart-at places rows ∙ ap (λ ps. apart_at ps rows) is ∙ apart_at-key key ns rows names
is_apart key ns rows places false is names h e = cc

-- what is sorted at them does not ascend where two agree
sorted_apart : (key ns : List (List ℕ)) (rows sorted : List Tuple) (places : List ℕ) (b : Bool) → places ≡ places_from 0 key ns → All (λ t. tuple_names t ≡ ns) rows
    → IsPermutation rows sorted → IsSortedBy (λ s t. is_lt (by_places places s t)) sorted
    → IsAllAdjacentAnswer (λ s t b. b ≡ is_lt (by_places places s t)) sorted b → b ≡ key_holds key rows
sorted_apart key ns rows sorted places b is names p up h =
    by_answer b h ∙ sym (apart-at places sorted) ∙ sym (apart_permuted found_order found_order_total (tuple_values_at places) rows sorted p) ∙ apart-at places rows ∙ ap (λ ps. apart_at ps rows) is ∙ apart_at-key key ns rows names
  where
    by_answer : (b : Bool) → IsAllAdjacentAnswer (λ s t b. b ≡ is_lt (by_places places s t)) sorted b → b ≡ apart_at places sorted
    by_answer true h = sym (apart_rising found_order found_order_total (tuple_values_at places) sorted h) ∙ apart-at places sorted
    by_answer false h = sym (apart_falling found_order found_order_total (tuple_values_at places) sorted h.0 h.1 h.2 up) ∙ apart-at places sorted

pub returns-then-ascend_at : goal.returns-then-ascend_at
returns-then-ascend_at c =
    let rows = c.args.relation.now.body in
    let first = c.in-Some.first.now in
    let is_first = subst (λ rs. slice_get rs 0 ≡ Some first) c.rows-rows.ensures.rows (sym c.in-Some.ensures.value) in
    let names = names_all c.args.relation.now.heading rows first c.rows-rows.ensures.headed is_first in
    let places = c.deref.ensures.value ∙ c.in_ok-places.ensures ∙ ap (places_from 0 c.args.key.now) c.names.ensures.names in
    is_apart c.args.key.now (tuple_names first) rows c.deref.result.now c.ascend_at.result places names
    (subst (λ rs. IsAllAdjacentAnswer (λ s t b. b ≡ is_lt (by_places c.deref.result.now s t)) rs c.ascend_at.result) c.rows-rows.ensures.rows c.ascend_at.ensures) c.if-ascend_at.true

pub returns : goal.returns
returns c =
    let rows = c.args.relation.now.body in
    let first = c.in-Some.first.now in
    let is_first = subst (λ rs. slice_get rs 0 ≡ Some first) c.rows-rows.ensures.rows (sym c.in-Some.ensures.value) in
    let names = names_all c.args.relation.now.heading rows first c.rows-rows.ensures.headed is_first in
    let places = c.in_ok-places.places.items in
    let is = c.in_ok-places.ensures ∙ ap (places_from 0 c.args.key.now) c.names.ensures.names in
    let sorted = c.in_ok-sorted.sorted.items in
    let up = subst (λ ps. IsSortedBy (λ s t. is_lt (by_places ps s t)) sorted) c.deref-2.ensures.value c.in_ok-sorted.ensures.sorted in
    let here = subst (λ ps. IsAllAdjacentAnswer (λ s t b. b ≡ is_lt (by_places ps s t)) c.deref-4.result.now c.ascend_at-2.result) c.deref-3.ensures.value c.ascend_at-2.ensures in
    sorted_apart c.args.key.now (tuple_names first) rows sorted places c.ascend_at-2.result is names c.in_ok-sorted.ensures.permutation up
    (subst (λ ts. IsAllAdjacentAnswer (λ s t b. b ≡ is_lt (by_places places s t)) ts c.ascend_at-2.result) c.deref-4.ensures.value here)
