-- A change of members, one tuple after another.
use Rattle.std.proofs.Common.{◌≡◌, ℕ, zero, suc, ◌+◌, ◌<◌, Bool, true, false, not, cond, ◌||◌, ◌&&◌, List, [], ◌∷◌, ◌++◌, drop, get_or, length, map, take, refl, sym, ap, ◌∙◌, arith, true≢false}
use Rattle.std.proofs.lemmas.List.{get_or-map, take_more}
use Rattle.std.specs.Cmp.{eq_by_cmp_equiv}
use Rattle.std.specs.Ordering.{eq_by_cmp}
use Rattle.td_value.specs.model.Values.{IsAscendingBody, Tuple, tuple_cmp}
use Rattle.td_value.specs.code.ValueOrder.{tuple_order_total}
use Rattle.td_body.specs.code.Numbered.{repeats, tuple_eq}
use Rattle.td_body.specs.code.Members.{changed_set, put_tuple}
use Rattle.td_body.proofs.Lives.{repeats_gap}
use Rattle.td_body.proofs.News.{apart_set}
use Rattle.td_body.proofs.TupleSets.{ascends-changed, ascends-put, has-append, has-changed, has-put, has_tuple, same_tuples, split_tuple}

split_at : (xs : List Tuple) (i : ℕ) (d : Tuple) → i < length xs → xs ≡ take i xs ++ get_or xs i d ∷ drop (suc i) xs
split_at [] i d low = absurd (omega (arith, low))
split_at (x ∷ xs) zero d low = refl
split_at (x ∷ xs) (suc i) d low = ap (λ l. x ∷ l) (split_at xs i d (omega (arith, low)))

none_else : (xs ys : List Tuple) (t : Tuple) → repeats tuple_eq (xs ++ t ∷ ys) ≡ 0 → has_tuple t xs ≡ false
none_else xs ys t apart = by (has_tuple t xs) refl (sym (repeats_gap tuple_eq (eq_by_cmp_equiv tuple_order_total) xs ys t) ∙ apart)
  where
    by : (b : Bool) → has_tuple t xs ≡ b → cond (has_tuple t (xs ++ ys)) 1 0 + repeats tuple_eq (xs ++ ys) ≡ 0 → b ≡ false
    by true e z =
        let here : has_tuple t (xs ++ ys) ≡ true = has-append t xs ys ∙ ap (λ b. b || has_tuple t ys) e in
        let z' : 1 + repeats tuple_eq (xs ++ ys) ≡ 0 = sym (ap (λ b. cond b 1 0 + repeats tuple_eq (xs ++ ys)) here) ∙ z in
        absurd (omega (arith, z'))
    by false e z = refl

-- of tuples that ascend none is among those before it
none_before : (xs : List Tuple) (i : ℕ) (t : Tuple) → IsAscendingBody xs → i < length xs → t ≡ get_or xs i t → has_tuple t (take i xs) ≡ false
none_before xs i t up low is =
    none_else (take i xs) (drop (suc i) xs) t
    (ap (λ u. repeats tuple_eq (take i xs ++ u ∷ drop (suc i) xs)) is ∙ ap (repeats tuple_eq) (sym (split_at xs i t low)) ∙ apart_set xs up)

-- what was asked of the tuple of a place
pub is_new : (ts add : List Tuple) (mask : List Bool) (i : ℕ) (t : Tuple) (b : Bool) → i < length add → mask ≡ map (λ u. not (has_tuple u ts)) add → t ≡ get_or add i t → b ≡ get_or mask i b
    → b ≡ not (has_tuple t ts)
is_new ts add mask i t b low asked is at =
    at ∙ ap (λ m. get_or m i b) asked ∙ get_or-map (λ u. not (has_tuple u ts)) add i t b low ∙ ap (λ u. not (has_tuple u ts)) (sym is)

from_not : (b c : Bool) → b ≡ not c → b ≡ true → c ≡ false
from_not b true e t = absurd (true≢false (sym t ∙ e))
from_not b false e t = refl

from_so : (b c : Bool) → b ≡ not c → b ≡ false → c ≡ true
from_so b true e t = refl
from_so b false e t = absurd (true≢false (sym e ∙ t))

module _ (ts add : List Tuple) (i : ℕ) (t : Tuple) (low : i < length add) (is : t ≡ get_or add i t) where
  more : take (i + 1) add ≡ take i add ++ t ∷ []
  more = take_more add i t low ∙ ap (λ u. take i add ++ u ∷ []) (sym is)

  -- a tuple that was no member is none after those before it came in
  pub put_new : (now : List Tuple) (b : Bool) → IsAscendingBody add → now ≡ changed_set [] (take i add) ts → b ≡ not (has_tuple t ts) → b ≡ true → has_tuple t now ≡ false
  put_new now b up at asked new =
      ap (has_tuple t) at ∙ has-changed t [] (take i add) ts
      ∙ (λ j. (true && from_not b (has_tuple t ts) asked new j) || none_before add i t up low is j)

  pub put_more : (now : List Tuple) → now ≡ changed_set [] (take i add) ts → put_tuple t now ≡ changed_set [] (take (i + 1) add) ts
  put_more now at =
      ap (put_tuple t) at
      ∙ same_tuples (put_tuple t (changed_set [] (take i add) ts)) (changed_set [] (take i add ++ t ∷ []) ts)
      (ascends-put t (changed_set [] (take i add) ts) (ascends-changed [] (take i add) ts)) (ascends-changed [] (take i add ++ t ∷ []) ts)
      (λ u. has-put u t (changed_set [] (take i add) ts) ∙ ap (λ b. eq_by_cmp tuple_cmp u t || b) (has-changed u [] (take i add) ts)
      ∙ joined (eq_by_cmp tuple_cmp u t) (has_tuple u (take i add)) (has_tuple u ts)
      ∙ sym (has-changed u [] (take i add ++ t ∷ []) ts ∙ ap (λ b. (true && has_tuple u ts) || b) (has-append u (take i add) (t ∷ []))))
      ∙ ap (λ l. changed_set [] l ts) (sym more)
    where
      joined : (a b c : Bool) → (a || ((true && c) || b)) ≡ ((true && c) || (b || (a || false)))
      joined true true true = refl
      joined true true false = refl
      joined true false true = refl
      joined true false false = refl
      joined false true true = refl
      joined false true false = refl
      joined false false true = refl
      joined false false false = refl

  -- one that was a member changes nothing
  pub put_none : (now : List Tuple) (b : Bool) → now ≡ changed_set [] (take i add) ts → b ≡ not (has_tuple t ts) → b ≡ false → now ≡ changed_set [] (take (i + 1) add) ts
  put_none now b at asked old =
      at ∙ same_tuples (changed_set [] (take i add) ts) (changed_set [] (take i add ++ t ∷ []) ts) (ascends-changed [] (take i add) ts) (ascends-changed [] (take i add ++ t ∷ []) ts)
      (λ u. has-changed u [] (take i add) ts ∙ by u
      ∙ sym (has-changed u [] (take i add ++ t ∷ []) ts ∙ ap (λ b. (true && has_tuple u ts) || b) (has-append u (take i add) (t ∷ []))))
      ∙ ap (λ l. changed_set [] l ts) (sym more)
    where
      there : has_tuple t ts ≡ true
      there = from_so b (has_tuple t ts) asked old

      or_none : (b : Bool) → b ≡ (b || false)
      or_none true = refl
      or_none false = refl

      by : (u : Tuple) → ((true && has_tuple u ts) || has_tuple u (take i add)) ≡ ((true && has_tuple u ts) || (has_tuple u (take i add) || (eq_by_cmp tuple_cmp u t || false)))
      by u = split_tuple u t
          (λ same e. let here : has_tuple u ts ≡ true = ap (λ z. has_tuple z ts) same ∙ there in rw here refl)
          (λ _ e. rw e (ap (λ b. (true && has_tuple u ts) || b) (or_none (has_tuple u (take i add)))))
