-- Lists of tuples by their members.
use Rattle.std.proofs.Common.{◌≡◌, ◌∙◌, ap, sym, refl, true≢false, Bool, true, false, ◌&&◌, ◌||◌, not, List, [], ◌∷◌}
use Rattle.std.specs.Ordering.{eq_by_cmp}
use Rattle.std.specs.Bool.{IsTrue}
use Rattle.std.specs.List.{Contains, list_all}
use Rattle.td_value.specs.model.Sets.{has}
use Rattle.td_value.specs.model.Values.{Tuple, tuple_cmp}
use Rattle.td_value.specs.code.ValueOrder.{tuple_Decides}
use Rattle.td_value.proofs.Members.{contained, found}

pub both_true : (b c : Bool) → b ≡ true → c ≡ true → (b && c) ≡ true
both_true true c e f = f
both_true false c e f = e

pub first_true : (b c : Bool) → (b && c) ≡ true → b ≡ true
first_true true c e = refl
first_true false c e = e

pub second_true : (b c : Bool) → (b && c) ≡ true → c ≡ true
second_true true c e = e
second_true false c e = absurd (true≢false (sym e))

-- a list does not contain exactly what the test misses
pub absent : (t : Tuple) (ts : List Tuple) → IsTrue (not (has tuple_cmp t ts)) → Contains ts t → ⊥
absent t ts h c = true≢false (sym (rw (found t ts c) at h))

pub lacked : (t : Tuple) (ts : List Tuple) → (Contains ts t → ⊥) → IsTrue (not (has tuple_cmp t ts))
lacked t ts h = by_test (has tuple_cmp t ts) (λ e. h (contained t ts e))
  where
    by_test : (b : Bool) → (b ≡ true → ⊥) → not b ≡ true
    by_test true f = absurd (f refl)
    by_test false f = refl

-- a test holds of all of a list exactly where it holds of what the list contains
tested : (p : Tuple → Bool) (ts : List Tuple) → list_all p ts ≡ true → (t : Tuple) → Contains ts t → p t ≡ true
tested p ts h t c = everywhere ts h (found t ts c)
  where
    everywhere : (ts : List Tuple) → list_all p ts ≡ true → has tuple_cmp t ts ≡ true → p t ≡ true
    everywhere [] h e = absurd (true≢false (sym e))
    everywhere (u ∷ rest) h e = by_tie (everywhere rest (second_true _ _ h)) (eq_by_cmp tuple_cmp t u) refl
      where
        by_tie : (has tuple_cmp t rest ≡ true → p t ≡ true) → (b : Bool) → eq_by_cmp tuple_cmp t u ≡ b → p t ≡ true
        by_tie later true is = ap p ((tuple_Decides t u).0 is) ∙ first_true _ _ h
        by_tie later false is = later (rw is at e)

tests : (p : Tuple → Bool) (ts : List Tuple) → ((t : Tuple) → Contains ts t → p t ≡ true) → list_all p ts ≡ true
tests p [] h = refl
tests p (t ∷ ts) h =
    both_true _ _ (h t (contained t (t ∷ ts) (itself t ts))) (tests p ts (λ u c. h u (contained u (t ∷ ts) (later u t ts (found u ts c)))))
  where
    itself : (t : Tuple) (ts : List Tuple) → has tuple_cmp t (t ∷ ts) ≡ true
    itself t ts = rw ((tuple_Decides t t).1 refl) refl

    later : (u t : Tuple) (ts : List Tuple) → has tuple_cmp u ts ≡ true → has tuple_cmp u (t ∷ ts) ≡ true
    later u t ts e = by_tie (eq_by_cmp tuple_cmp u t)
      where
        by_tie : (b : Bool) → (b || has tuple_cmp u ts) ≡ true
        by_tie true = refl
        by_tie false = e

-- what is in one list is in another exactly where the test of each tuple says so
pub included : (ts us : List Tuple) → IsTrue (list_all (λ t. has tuple_cmp t us) ts) → (t : Tuple) → Contains ts t → Contains us t
included ts us h t c = contained t us (tested (λ u. has tuple_cmp u us) ts h t c)

pub includes : (ts us : List Tuple) → ((t : Tuple) → Contains ts t → Contains us t) → IsTrue (list_all (λ t. has tuple_cmp t us) ts)
includes ts us h = tests (λ u. has tuple_cmp u us) ts (λ t c. found t us (h t c))

-- and none of the one is in the other
pub divided : (ts us : List Tuple) → IsTrue (list_all (λ t. not (has tuple_cmp t us)) ts) → (t : Tuple) → Contains ts t → Contains us t → ⊥
divided ts us h t c = absent t us (tested (λ u. not (has tuple_cmp u us)) ts h t c)

pub divides : (ts us : List Tuple) → ((t : Tuple) → Contains ts t → Contains us t → ⊥) → IsTrue (list_all (λ t. not (has tuple_cmp t us)) ts)
divides ts us h = tests (λ u. not (has tuple_cmp u us)) ts (λ t c. lacked t us (h t c))
