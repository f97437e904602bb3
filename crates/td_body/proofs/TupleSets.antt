-- Sets of tuples as strictly ascending lists: with one more tuple, without one, and with those that pass a test.
use Rattle.std.specs.Ordering.{eq_by_cmp}
use Rattle.std.proofs.Common.{◌≡◌, Bool, true, false, List, [], ◌∷◌, ◌++◌, filter, refl, sym, ap, ◌∙◌, subst, true≢false}
use Rattle.std.specs.Prelude.{not, ◌||◌, ◌&&◌}
use Rattle.std.proofs.lemmas.List.Kept.{IsStrictlySortedBy-filter}
use Rattle.td_value.specs.model.Sets.{has, set_of}
use Rattle.td_value.specs.model.Values.{Tuple, IsAscendingBody, tuple_cmp}
use Rattle.td_value.specs.code.ValueOrder.{tuple_Decides, tuple_order_same, tuple_order_total}
use Rattle.td_value.proofs.SetLaws as sets
use Rattle.td_body.specs.code.Members.{changed_set, put_tuple, without}
use Rattle.td_body.proofs.Splits.{split}

abbrev pub has_tuple : Tuple → List Tuple → Bool
has_tuple = has tuple_cmp

-- whether one tuple is the other
pub split_tuple : (s t : Tuple) {G : Type 0} → (s ≡ t → eq_by_cmp tuple_cmp s t ≡ true → G) → ((s ≡ t → ⊥) → eq_by_cmp tuple_cmp s t ≡ false → G) → G
split_tuple = split (eq_by_cmp tuple_cmp) tuple_Decides

pub has-filter : (p : Tuple → Bool) (t : Tuple) (ts : List Tuple) → has_tuple t (filter p ts) ≡ (p t && has_tuple t ts)
has-filter p t [] = nothing (p t)
  where
    nothing : (b : Bool) → false ≡ (b && false)
    nothing true = refl
    nothing false = refl
has-filter p t (u ∷ us) = split_tuple t u (at_same (has-filter p t us)) (λ _ e. at_other (has-filter p t us) e)
  where
    at_same : has_tuple t (filter p us) ≡ (p t && has_tuple t us) → t ≡ u → eq_by_cmp tuple_cmp t u ≡ true → has_tuple t (filter p (u ∷ us)) ≡ (p t && has_tuple t (u ∷ us))
    at_same ih is e = by_test (p u) refl
      where
        by_test : (b : Bool) → p u ≡ b → has_tuple t (filter p (u ∷ us)) ≡ (p t && has_tuple t (u ∷ us))
        by_test true h = rw (filter, h, e, ap p is, h) refl
        by_test false h = rw (filter, h, ih, ap p is, h) refl

    at_other : has_tuple t (filter p us) ≡ (p t && has_tuple t us) → eq_by_cmp tuple_cmp t u ≡ false → has_tuple t (filter p (u ∷ us)) ≡ (p t && has_tuple t (u ∷ us))
    at_other ih e = by_test (p u) refl
      where
        by_test : (b : Bool) → p u ≡ b → has_tuple t (filter p (u ∷ us)) ≡ (p t && has_tuple t (u ∷ us))
        by_test true h = rw (filter, h, e, ih) refl
        by_test false h = rw (filter, h, e, ih) refl

-- a tie is one in each direction
turned : (t r : Tuple) → eq_by_cmp tuple_cmp r t ≡ eq_by_cmp tuple_cmp t r
turned t r = by_tests (eq_by_cmp tuple_cmp t r) (eq_by_cmp tuple_cmp r t) refl refl
  where
    by_tests : (b c : Bool) → eq_by_cmp tuple_cmp t r ≡ b → eq_by_cmp tuple_cmp r t ≡ c → eq_by_cmp tuple_cmp r t ≡ eq_by_cmp tuple_cmp t r
    by_tests true true p q = q ∙ sym p
    by_tests false false p q = q ∙ sym p
    by_tests true false p q = absurd (true≢false (sym ((tuple_Decides r t).1 (sym ((tuple_Decides t r).0 p))) ∙ q))
    by_tests false true p q = absurd (true≢false (sym ((tuple_Decides t r).1 (sym ((tuple_Decides r t).0 q))) ∙ p))

pub has-without : (t r : Tuple) (ts : List Tuple) → has_tuple t (without r ts) ≡ (not (eq_by_cmp tuple_cmp t r) && has_tuple t ts)
has-without t r ts = has-filter (λ u. not (eq_by_cmp tuple_cmp r u)) t ts ∙ ap (λ b. not b && has_tuple t ts) (turned t r)

pub has-put : (t r : Tuple) (ts : List Tuple) → has_tuple t (put_tuple r ts) ≡ (eq_by_cmp tuple_cmp t r || has_tuple t ts)
has-put t r ts = sets.has-put_in tuple_cmp tuple_order_total tuple_order_same t r ts

pub ascends-put : (r : Tuple) (ts : List Tuple) → IsAscendingBody ts → IsAscendingBody (put_tuple r ts)
ascends-put = sets.put_in-ascends tuple_cmp tuple_order_total tuple_order_same

pub ascends-without : (r : Tuple) (ts : List Tuple) → IsAscendingBody ts → IsAscendingBody (without r ts)
ascends-without r ts up = IsStrictlySortedBy-filter tuple_cmp (λ u. not (eq_by_cmp tuple_cmp r u)) ts up

-- sets with the same members are one
pub same_tuples : (ss ts : List Tuple) → IsAscendingBody ss → IsAscendingBody ts → ((t : Tuple) → has_tuple t ss ≡ has_tuple t ts) → ss ≡ ts
same_tuples = sets.same_members tuple_cmp tuple_order_total tuple_order_same

pub put_back : (r : Tuple) (ts : List Tuple) → IsAscendingBody ts → has_tuple r ts ≡ true → put_tuple r (without r ts) ≡ ts
put_back r ts up h =
    same_tuples (put_tuple r (without r ts)) ts (ascends-put r (without r ts) (ascends-without r ts up)) up
    (λ t. has-put t r (without r ts) ∙ ap (λ b. eq_by_cmp tuple_cmp t r || b) (has-without t r ts) ∙ split_tuple t r
    (λ is e. rw e (sym (subst (λ z. has_tuple z ts ≡ true) (sym is) h)))
    (λ _ e. rw e refl))

pub taken_back : (r : Tuple) (ts : List Tuple) → IsAscendingBody ts → has_tuple r ts ≡ false → without r (put_tuple r ts) ≡ ts
taken_back r ts up h =
    same_tuples (without r (put_tuple r ts)) ts (ascends-without r (put_tuple r ts) (ascends-put r ts up)) up
    (λ t. has-without t r (put_tuple r ts) ∙ ap (λ b. not (eq_by_cmp tuple_cmp t r) && b) (has-put t r ts) ∙ split_tuple t r
    (λ is e. rw e (sym (subst (λ z. has_tuple z ts ≡ false) (sym is) h)))
    (λ _ e. rw e refl))

pub put_again : (r : Tuple) (ts : List Tuple) → IsAscendingBody ts → has_tuple r ts ≡ true → put_tuple r ts ≡ ts
put_again r ts up h =
    same_tuples (put_tuple r ts) ts (ascends-put r ts up) up
    (λ t. has-put t r ts ∙ split_tuple t r
    (λ is e. rw e (sym (subst (λ z. has_tuple z ts ≡ true) (sym is) h)))
    (λ _ e. rw e refl))

pub taken_again : (r : Tuple) (ts : List Tuple) → IsAscendingBody ts → has_tuple r ts ≡ false → without r ts ≡ ts
taken_again r ts up h =
    same_tuples (without r ts) ts (ascends-without r ts up) up
    (λ t. has-without t r ts ∙ split_tuple t r
    (λ is e. rw e (sym (subst (λ z. has_tuple z ts ≡ false) (sym is) h)))
    (λ _ e. rw e refl))

-- ---- a change of a set

pub has-set : (t : Tuple) (ts : List Tuple) → has_tuple t (set_of tuple_cmp ts) ≡ has_tuple t ts
has-set = sets.has-set_of tuple_cmp tuple_order_total tuple_order_same

pub ascends-set : (ts : List Tuple) → IsAscendingBody (set_of tuple_cmp ts)
ascends-set = sets.set_of-ascends tuple_cmp tuple_order_total tuple_order_same

pub has-append : (t : Tuple) (ss ts : List Tuple) → has_tuple t (ss ++ ts) ≡ (has_tuple t ss || has_tuple t ts)
has-append t [] ts = refl
has-append t (s ∷ ss) ts = ap (λ b. eq_by_cmp tuple_cmp t s || b) (has-append t ss ts) ∙ joined (eq_by_cmp tuple_cmp t s) (has_tuple t ss) (has_tuple t ts)
  where
    joined : (a b c : Bool) → (a || (b || c)) ≡ ((a || b) || c)
    joined true b c = refl
    joined false b c = refl

-- what a change makes of a set, by members
pub has-changed : (t : Tuple) (out add ts : List Tuple) → has_tuple t (changed_set out add ts) ≡ ((not (has_tuple t out) && has_tuple t ts) || has_tuple t add)
has-changed t out add ts =
    has-set t (filter (λ u. not (has_tuple u out)) ts ++ add) ∙ has-append t (filter (λ u. not (has_tuple u out)) ts) add
    ∙ ap (λ b. b || has_tuple t add) (has-filter (λ u. not (has_tuple u out)) t ts)

pub ascends-changed : (out add ts : List Tuple) → IsAscendingBody (changed_set out add ts)
ascends-changed out add ts = sets.set_of-ascends tuple_cmp tuple_order_total tuple_order_same (filter (λ u. not (has_tuple u out)) ts ++ add)

unchanged_none : (a : Bool) → ((true && a) || false) ≡ a
unchanged_none true = refl
unchanged_none false = refl

-- nothing out and nothing in changes nothing
pub changed_none : (ts : List Tuple) → IsAscendingBody ts → changed_set [] [] ts ≡ ts
changed_none ts up = same_tuples (changed_set [] [] ts) ts (ascends-changed [] [] ts) up (λ t. has-changed t [] [] ts ∙ unchanged_none (has_tuple t ts))

-- what is taken out first, then the others
pub changed_out : (r : Tuple) (out ts : List Tuple) → changed_set out [] (without r ts) ≡ changed_set (r ∷ out) [] ts
changed_out r out ts =
    same_tuples (changed_set out [] (without r ts)) (changed_set (r ∷ out) [] ts) (ascends-changed out [] (without r ts)) (ascends-changed (r ∷ out) [] ts)
    (λ t. has-changed t out [] (without r ts) ∙ ap (λ b. (not (has_tuple t out) && b) || false) (has-without t r ts)
    ∙ joined (eq_by_cmp tuple_cmp t r) (has_tuple t out) (has_tuple t ts) ∙ sym (has-changed t (r ∷ out) [] ts))
  where
    joined : (a b c : Bool) → ((not b && (not a && c)) || false) ≡ ((not (a || b) && c) || false)
    joined true true c = refl
    joined true false c = refl
    joined false b c = refl

-- what is put in first, then the others
pub changed_in : (r : Tuple) (add ts : List Tuple) → changed_set [] add (put_tuple r ts) ≡ changed_set [] (add ++ r ∷ []) ts
changed_in r add ts =
    same_tuples (changed_set [] add (put_tuple r ts)) (changed_set [] (add ++ r ∷ []) ts) (ascends-changed [] add (put_tuple r ts)) (ascends-changed [] (add ++ r ∷ []) ts)
    (λ t. has-changed t [] add (put_tuple r ts) ∙ ap (λ b. (true && b) || has_tuple t add) (has-put t r ts)
    ∙ joined (eq_by_cmp tuple_cmp t r) (has_tuple t add) (has_tuple t ts) ∙ sym (has-changed t [] (add ++ r ∷ []) ts ∙ ap (λ b. (true && has_tuple t ts) || b) (has-append t add (r ∷ []))))
  where
    joined : (a b c : Bool) → ((true && (a || c)) || b) ≡ ((true && c) || (b || (a || false)))
    joined true true true = refl
    joined true true false = refl
    joined true false true = refl
    joined true false false = refl
    joined false true true = refl
    joined false true false = refl
    joined false false true = refl
    joined false false false = refl

-- first what goes out, then what comes in
pub changed_both : (out add ts : List Tuple) → changed_set [] add (changed_set out [] ts) ≡ changed_set out add ts
changed_both out add ts =
    same_tuples (changed_set [] add (changed_set out [] ts)) (changed_set out add ts) (ascends-changed [] add (changed_set out [] ts)) (ascends-changed out add ts)
    (λ t. has-changed t [] add (changed_set out [] ts) ∙ ap (λ b. (true && b) || has_tuple t add) (has-changed t out [] ts)
    ∙ joined (not (has_tuple t out) && has_tuple t ts) (has_tuple t add) ∙ sym (has-changed t out add ts))
  where
    joined : (a b : Bool) → ((true && (a || false)) || b) ≡ (a || b)
    joined true b = refl
    joined false b = refl

-- what is put in first, then the others that stand behind it
pub changed_first : (r : Tuple) (add ts : List Tuple) → changed_set [] add (put_tuple r ts) ≡ changed_set [] (r ∷ add) ts
changed_first r add ts =
    same_tuples (changed_set [] add (put_tuple r ts)) (changed_set [] (r ∷ add) ts) (ascends-changed [] add (put_tuple r ts)) (ascends-changed [] (r ∷ add) ts)
    (λ t. has-changed t [] add (put_tuple r ts) ∙ ap (λ b. (true && b) || has_tuple t add) (has-put t r ts)
    ∙ joined (eq_by_cmp tuple_cmp t r) (has_tuple t add) (has_tuple t ts) ∙ sym (has-changed t [] (r ∷ add) ts))
  where
    joined : (a b c : Bool) → ((true && (a || c)) || b) ≡ ((true && c) || (a || b))
    joined true true true = refl
    joined true true false = refl
    joined true false true = refl
    joined true false false = refl
    joined false b c = refl

-- an ascending list is the set of its tuples
pub changed_from_none : (ts : List Tuple) → IsAscendingBody ts → changed_set [] ts [] ≡ ts
changed_from_none ts up =
    same_tuples (changed_set [] ts []) ts (ascends-changed [] ts []) up (λ t. has-changed t [] ts [] ∙ none (has_tuple t ts))
  where
    none : (b : Bool) → ((true && false) || b) ≡ b
    none b = refl
