-- Restrictions that fix the attributes of a key.
use Rattle.std.proofs.Common.{◌≡◌, ◌∙◌, ap, arith, sym, refl, subst, ℕ, zero, suc, Bool, true, false, List, [], ◌∷◌, Option, None, Some, filter, true≢false}
use Rattle.std.specs.Prelude.{◌&&◌, not, is_some, option_map, if◌then◌else◌}
use Rattle.std.specs.List.{Contains}
use Rattle.std.specs.Option.{option_cmp}
use Rattle.std.specs.Ordering.{eq_by_cmp}
use Rattle.std.specs.Cmp.Lexicographic.{same_text}
use Rattle.td_types.specs.model.Headings.{are_distinct, has_name, projection}
use Rattle.td_types.specs.model.Types.{Heading, same_name, type_at}
use Rattle.td_types.proofs.HeadingLaws.{same_name-itself, type_at-projection}
use Rattle.td_value.specs.model.Agreement.{AgreeOn, agree_on}
use Rattle.td_value.specs.code.ValueOrder.{value_Decides}
use Rattle.td_value.specs.model.Values.{Val, IsRelation, IsTuple, Relation, IsTupleOf, Tuple, heading_of, tuple_names, type_of, value_at, value_cmp}
use Rattle.td_value.proofs.Agreement.{agreement_of_values}
use Rattle.td_algebra.proofs.Entries.{has_value, no_value_outside, tuple_distinct, type_at-heading_of}
use Rattle.td_algebra.proofs.Lists.{contains_first, contains_later}
use Rattle.td_algebra.proofs.Relations.{member_headed}
use Rattle.td_body.specs.model.Bodies.{agreeing}
use Rattle.td_algebra.specs.model.Operators.{restriction}
use Rattle.td_plan.specs.laws.Equalities.{RestrictionAfterLookUp, HasValues, IsPartOn, ValuesAreTold, has_values, is_at}

both : (b c : Bool) → (not b && c) ≡ true → (b ≡ false) × (c ≡ true)
both true c e = absurd (true≢false (sym e))
both false c e = (refl, e)

both_true : (b c : Bool) → (b && c) ≡ true → (b ≡ true) × (c ≡ true)
both_true true c e = (refl, e)
both_true false c e = absurd (true≢false (sym e))

-- what passes both tests is what passes one and then the other
filter_both : (p q : Tuple → Bool) (ts : List Tuple) → filter (λ t. p t && q t) ts ≡ filter q (filter p ts)
filter_both p q [] = refl
filter_both p q (t ∷ ts) = by_tests (filter_both p q ts) (p t) (q t) refl refl
  where
    by_tests : filter (λ u. p u && q u) ts ≡ filter q (filter p ts) → (a b : Bool) → p t ≡ a → q t ≡ b
        → filter (λ u. p u && q u) (t ∷ ts) ≡ filter q (filter p (t ∷ ts))
    by_tests rest true true d e = rw (d, e) (ap (λ us. t ∷ us) rest)
    by_tests rest true false d e = rw (d, e) rest
    by_tests rest false b d e = rw d rest

-- ---- the values of a part

-- a tuple has a value at a name exactly where it gives the name that value
value_there : (n : List ℕ) (v : Val) (t : Tuple) → is_at n v t ≡ true → value_at n t ≡ Some v
value_there n v t e = by_value (value_at n t) e
  where
    by_value : (o : Option Val) → eq_by_cmp (option_cmp value_cmp) o (Some v) ≡ true → o ≡ Some v
    by_value None e = absurd (true≢false (sym e))
    by_value (Some x) e = ap Some ((value_Decides x v).0 e)

pub there_value : (n : List ℕ) (v : Val) (t : Tuple) → value_at n t ≡ Some v → is_at n v t ≡ true
there_value n v t e = ap (λ o. eq_by_cmp (option_cmp value_cmp) o (Some v)) e ∙ (value_Decides v v).1 refl

-- a tuple that has the entries' values gives each of their names its value
values_hold : (es t : Tuple) → has_values es t ≡ true → (n : List ℕ) (v : Val) → value_at n es ≡ Some v → value_at n t ≡ Some v
values_hold [] t h n v e = cc
values_hold (f ∷ es) t h n v e =
    let parts = both_true (is_at f.0 f.1 t) (has_values es t) h in
    by_name (values_hold es t parts.1 n v) (value_there f.0 f.1 t parts.0) (same_name f.0 n) refl
  where
    by_name : (value_at n es ≡ Some v → value_at n t ≡ Some v) → value_at f.0 t ≡ Some f.1 → (b : Bool) → same_name f.0 n ≡ b → value_at n t ≡ Some v
    by_name rest here true is =
        let value : Some f.1 ≡ Some v = rw is at e in
        subst (λ m. value_at m t ≡ Some f.1) (same_text f.0 n (sym is)) here ∙ value
    by_name rest here false is = rest (rw is at e)

-- a tuple that gives each of the entries' names its value has their values
hold_values : (es t : Tuple) → are_distinct (tuple_names es) ≡ true → ((n : List ℕ) (v : Val) → value_at n es ≡ Some v → value_at n t ≡ Some v) → has_values es t ≡ true
hold_values [] t d h = refl
hold_values (f ∷ es) t d h =
    let apart = both (has_name f.0 (tuple_names es)) (are_distinct (tuple_names es)) d in
    let here : value_at f.0 (f ∷ es) ≡ Some f.1 = rw (same_name-itself f.0) refl in
    rw (there_value f.0 f.1 t (h f.0 f.1 here))
    (hold_values es t apart.1 (λ n v e. h n v (later apart.0 n v e (same_name f.0 n) refl)))
  where
    later : has_name f.0 (tuple_names es) ≡ false → (n : List ℕ) (v : Val) → value_at n es ≡ Some v → (b : Bool) → same_name f.0 n ≡ b → value_at n (f ∷ es) ≡ Some v
    later none n v e true is =
        let there : is_some (value_at n es) ≡ true = ap is_some e in
        absurd (true≢false (sym there ∙ has_value n es ∙ ap (λ m. has_name m (tuple_names es)) (sym (same_text f.0 n (sym is))) ∙ none))
    later none n v e false is = rw is e

-- the test tells the fact
pub values_told : ValuesAreTold
values_told part t = (told part, tells part)
  where
    told : (es : Tuple) → has_values es t ≡ true → HasValues es t
    told [] h k d l = absurd (omega (arith, l))
    told (e ∷ es) h zero d l = value_there e.0 e.1 t (both_true (is_at e.0 e.1 t) (has_values es t) h).0
    told (e ∷ es) h (suc k) d l = told es (both_true (is_at e.0 e.1 t) (has_values es t) h).1 k d (omega (arith, l))

    tells : (es : Tuple) → HasValues es t → has_values es t ≡ true
    tells [] h = refl
    tells (e ∷ es) h = rw (there_value e.0 e.1 t (h 0 e (omega arith))) (tells es (λ k d l. h (suc k) d (omega (arith, l))))

-- ---- the look-up

module _ (key : List (List ℕ)) (part : Tuple) (h : Heading) (valid : IsTuple part) (is : heading_of part ≡ projection key h) (t : Tuple) (p : IsTupleOf h t) where
  -- the type of a name's value in the part
  part_type : (n : List ℕ) → option_map type_of (value_at n part) ≡ (if has_name n key then type_at n h else None)
  part_type n = sym (type_at-heading_of n part) ∙ ap (type_at n) is ∙ type_at-projection key n h

  from_values : has_values part t ≡ true → AgreeOn key part t
  from_values e n there = by_value (value_at n part) refl
    where
      by_value : (o : Option Val) → value_at n part ≡ o → value_at n part ≡ value_at n t
      by_value (Some v) f = f ∙ sym (values_hold part t e n v f)
      by_value None f =
          let no_type : None ≡ type_at n h = ap (option_map type_of) (sym f) ∙ part_type n ∙ rw there refl in
          f ∙ sym (no_value_outside h t p n (ap is_some (sym no_type)))

  to_values : AgreeOn key part t → has_values part t ≡ true
  to_values a = hold_values part t (tuple_distinct part valid) (λ n v e. sym (a n (named n v e (has_name n key) refl)) ∙ e)
    where
      named : (n : List ℕ) (v : Val) → value_at n part ≡ Some v → (b : Bool) → has_name n key ≡ b → has_name n key ≡ true
      named n v e true f = f
      named n v e false f =
          let none : Some (type_of v) ≡ None = ap (option_map type_of) (sym e) ∙ part_type n ∙ rw f refl in
          cc

  one_test : (b c : Bool) → (b ≡ true → c ≡ true) → (c ≡ true → b ≡ true) → b ≡ c
  one_test true c f g = sym (f refl)
  one_test false true f g = g refl
  one_test false false f g = refl

  values_agree : has_values part t ≡ agree_on key part t
  values_agree =
      one_test (has_values part t) (agree_on key part t) (λ e. (agreement_of_values key part t valid p.0).1 (from_values e))
      (λ e. to_values ((agreement_of_values key part t valid p.0).0 e))

kept_same : (f g : Tuple → Bool) (ts : List Tuple) → ((t : Tuple) → Contains ts t → f t ≡ g t) → filter f ts ≡ filter g ts
kept_same f g [] h = refl
kept_same f g (t ∷ ts) h =
    rw (h t (contains_first t ts), kept_same f g ts (λ u c. h u (contains_later t ts u c))) refl

-- a restriction that fixes each attribute of the key is the look-up
restriction_looks_up : (key : List (List ℕ)) (part : Tuple) (r : Relation) → IsRelation r → IsPartOn key r part
    → restriction (has_values part) r ≡ agreeing key part r
restriction_looks_up key part r p is =
    ap (λ ts. record { heading = r.heading; body = ts })
    (kept_same (has_values part) (agree_on key part) r.body (λ t c. values_agree key part r.heading is.0 is.1 t (member_headed r t p c)))

pub restricted_after_look_up : RestrictionAfterLookUp
restricted_after_look_up key part p r valid is within =
    ap (λ ts. record { heading = r.heading; body = ts })
    (kept_same p (λ t. has_values part t && p t) r.body (λ t c. by_test (has_values part t) (p t) (λ e. (values_told part t).1 (within t c e))) ∙ filter_both (has_values part) p r.body)
    ∙ ap (restriction p) (restriction_looks_up key part r valid is)
  where
    by_test : (b c : Bool) → (c ≡ true → b ≡ true) → c ≡ (b && c)
    by_test true c h = refl
    by_test false true h = sym (h refl)
    by_test false false h = refl
