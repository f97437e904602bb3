-- A key holds exactly where two members that agree on it are one.
use Rattle.std.proofs.Common.{◌≡◌, ◌∙◌, ◌∷◌, ◌<◌, ℕ, zero, suc, Bool, true, false, List, [], arith, get_or, length, refl, sym, subst, true≢false}
use Rattle.std.specs.Prelude.{◌&&◌, ◌||◌, not}
use Rattle.std.specs.declared.cmp.Ordering.TheVariants.{Less, Equal}
use Rattle.std.specs.List.{All, AllByRecursion, list_any}
use Rattle.std.specs.List.Sorted.{IsStrictlySortedBy}
use Rattle.std.proofs.lemmas.Cmp.{tied_itself}
use Rattle.std.proofs.lemmas.List.{get_or_default}
use Rattle.std.proofs.lemmas.List.Folds.{list_any_none}
use Rattle.td_value.specs.model.Agreement.{agree_on, AgreeOn}
use Rattle.td_value.specs.model.Values.{Tuple, IsTuple, tuple_cmp}
use Rattle.td_value.specs.code.ValueOrder.{tuple_order_total}
use Rattle.td_value.proofs.Agreement.{agreement_of_values}
use Rattle.td_value.proofs.Changes.{relation_ascends}
use Rattle.td_value.proofs.Rows.{All-from_rows}
use Rattle.td_body.specs.model.Bodies.{key_holds, KeyHolds}
use Rattle.td_body.specs.laws.BodyLaws.{KeysHoldByMembership}

both : (b c : Bool) → (not b && c) ≡ true → (b ≡ false) × (c ≡ true)
both true c e = absurd (true≢false (sym e))
both false c e = (refl, e)

is_false : (b : Bool) → (b ≡ true → ⊥) → b ≡ false
is_false true h = absurd (h refl)
is_false false h = refl

or_right : (b c : Bool) → c ≡ true → (b || c) ≡ true
or_right true c e = refl
or_right false c e = e

-- a test that a member passes finds one
passes : (p : Tuple → Bool) (ts : List Tuple) (t : Tuple) (k : ℕ) → k < length ts → get_or ts k t ≡ t → p t ≡ true → list_any p ts ≡ true
passes p [] t k l e h = absurd (omega arith)
passes p (u ∷ ts) t zero l e h = rw (e, h) refl
passes p (u ∷ ts) t (suc k) l e h = or_right (p u) (list_any p ts) (passes p ts t k (omega arith) e h)

less_at : (t : Tuple) (ts : List Tuple) (k : ℕ) (d : Tuple) → AllByRecursion (λ u. tuple_cmp t u ≡ Less) ts → k < length ts → tuple_cmp t (get_or ts k d) ≡ Less
less_at t [] k d h l = absurd (omega arith)
less_at t (u ∷ ts) zero d h l = h.0
less_at t (u ∷ ts) (suc k) d h l = less_at t ts k d h.1 (omega arith)

valid_at : (ts : List Tuple) (t : Tuple) (k : ℕ) → All IsTuple ts → k < length ts → get_or ts k t ≡ t → IsTuple t
valid_at ts t k all l e = subst IsTuple e (all k t l)

module _ (key : List (List ℕ)) where
  -- two members at their places, none of which agrees with one after it
  held_at : (ts : List Tuple) → All IsTuple ts → key_holds key ts ≡ true → (s t : Tuple) (j k : ℕ)
      → j < length ts → get_or ts j s ≡ s → k < length ts → get_or ts k t ≡ t → AgreeOn key s t → s ≡ t
  held_at [] all e s t j k l p m q a = absurd (omega arith)
  held_at (u ∷ ts) all e s t zero zero l p m q a = sym p ∙ q
  held_at (u ∷ ts) all e s t zero (suc k) l p m q a =
      let agree = (agreement_of_values key s t (valid_at (u ∷ ts) s zero all l p) (valid_at (u ∷ ts) t (suc k) all m q)).1 a in
      let found = passes (agree_on key u) ts t k (omega (arith, m)) q (subst (λ v. agree_on key v t ≡ true) (sym p) agree) in
      absurd (true≢false (sym found ∙ (both _ _ e).0))
  held_at (u ∷ ts) all e s t (suc j) zero l p m q a =
      let agree = (agreement_of_values key t s (valid_at (u ∷ ts) t zero all m q) (valid_at (u ∷ ts) s (suc j) all l p)).1 (λ n h. sym (a n h)) in
      let found = passes (agree_on key u) ts s j (omega (arith, l)) p (subst (λ v. agree_on key v s ≡ true) (sym q) agree) in
      absurd (true≢false (sym found ∙ (both _ _ e).0))
  held_at (u ∷ ts) all e s t (suc j) (suc k) l p m q a =
      held_at ts (λ i d h. all (suc i) d (omega (arith, h))) (both _ _ e).1 s t j k (omega (arith, l)) p (omega (arith, m)) q a

  held : (ts : List Tuple) → All IsTuple ts → key_holds key ts ≡ true → KeyHolds key ts
  held ts all e s t p q a = held_at ts all e s t p.0 q.0 p.1 p.2 q.1 q.2 a

  -- of two members that agree on it the first is not less
  apart : (t : Tuple) (ts : List Tuple) → All IsTuple (t ∷ ts) → AllByRecursion (λ u. tuple_cmp t u ≡ Less) ts → KeyHolds key (t ∷ ts)
      → All (λ u. agree_on key t u ≡ false) ts
  apart t ts all below h k d l =
      let u = get_or ts k d in
      is_false (agree_on key t u) (λ e.
      let agree = (agreement_of_values key t u (all zero d (omega arith)) (all (suc k) d (omega (arith, l)))).0 e in
      let same : t ≡ u = h t u (zero, omega arith, refl) (suc k, omega (arith, l), get_or_default ts k u d l) agree in
      let less : tuple_cmp t t ≡ Less = subst (λ v. tuple_cmp t v ≡ Less) (sym same) (less_at t ts k d below l) in
      let tie : tuple_cmp t t ≡ Equal = tied_itself tuple_order_total t in
      cc (less, tie))

  holds : (ts : List Tuple) → All IsTuple ts → IsStrictlySortedBy tuple_cmp ts → KeyHolds key ts → key_holds key ts ≡ true
  unfolding IsStrictlySortedBy
  holds [] all up h = refl
  holds (t ∷ ts) all up h =
      rw (list_any_none (agree_on key t) ts (apart t ts all up.0 h))
      (holds ts (λ i d l. all (suc i) d (omega (arith, l))) up.1
      (λ u v p q a. h u v (suc p.0, omega (arith, p.1), p.2) (suc q.0, omega (arith, q.1), q.2) a))

pub held_by_membership : KeysHoldByMembership
held_by_membership key r p =
    let headed = All-from_rows r.heading r.body p.0 in
    let valid : All IsTuple r.body = λ k d l. (headed k d l).0 in
    (held key r.body valid, holds key r.body valid (relation_ascends r.heading r.body p))
