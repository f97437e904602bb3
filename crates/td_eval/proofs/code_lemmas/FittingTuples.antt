-- Tuples that are of a heading or not, as elements of a relation.
use Rattle.std.proofs.Common.{◌≡◌, ◌∙◌, ◌<◌, ℕ, zero, suc, Bool, true, false, ◌+◌, List, [], ◌∷◌, ◌++◌, Result, Some, Err, ap, arith, get_or, length, map, refl, subst, sym, take}
use Rattle.std.specs.Prelude.{if◌then◌else◌, nat_le, ⊤}
use Rattle.std.proofs.lemmas.List.{take_more}
use Rattle.std.proofs.lemmas.List.Elements.{All-push}
use Rattle.std.specs.List.{All, slice_get}
use Rattle.td_check.specs.model.OperatorTypes.{same_heading}
use Rattle.td_eval.proofs.code_lemmas.FixedElements.{valued_next}
use Rattle.td_eval.specs.model.OperatorValues.{element_of, headed_value, listed_value}
use Rattle.td_tree.specs.model.Causes.{number_of}
use Rattle.td_tree.specs.model.Outcomes.{Answers, Causes, Only, Outcome, Refused, Union, Valued, gathered, least, lesser, named_cause, value_if, with_both}
use Rattle.td_tree.specs.declared.cause.Cause.{Cause}
use Rattle.td_tree.specs.declared.cause.Cause.TheVariants as causes
use Rattle.td_tree.specs.declared.fault.Fault.{Fault}
use Rattle.td_tree.specs.declared.fault.Fault.TheVariants as faults
use Rattle.td_types.specs.model.Types.{Heading}
use Rattle.td_value.specs.model.Values.{IsTupleOf, Tuple, Val, heading_of, tuple_value}
use Rattle.td_value.specs.code.ValueCode.{unpack_pack_fields}

-- a tuple as an element of a relation of the heading
abbrev pub fitted : Heading → Tuple → Outcome Tuple
fitted h t = element_of h (tuple_value t)

pub fitted_is : (h : Heading) (t : Tuple) → fitted h t ≡ value_if (same_heading (heading_of t) h) t causes.Heading
fitted_is h t = ap (λ u. value_if (same_heading (heading_of u) h) u causes.Heading) (unpack_pack_fields t)

-- as elements, in one go or in two
pub fitted_twice : (h : Heading) (ts : List Tuple) → map (element_of h) (map tuple_value ts) ≡ map (fitted h) ts
fitted_twice h [] = refl
fitted_twice h (t ∷ ts) = ap (λ os. fitted h t ∷ os) (fitted_twice h ts)

-- the heading of a list of tuples is the first one's
pub listed_by : (ts : List Tuple) (t : Tuple) (x : Result Val Fault) → Some t ≡ slice_get ts 0
    → Answers (λ v. v) x (headed_value (heading_of t) (map tuple_value ts)) → Answers (λ v. v) x (listed_value (map tuple_value ts))
listed_by [] t x is a = absurd (cc)
listed_by (u ∷ us) t x is a =
    let same : t ≡ u = cc in
    subst (λ r. Answers (λ (v : Val). v) x (headed_value (heading_of r) (map tuple_value (u ∷ us)))) (same ∙ sym (unpack_pack_fields u)) a

-- ---- what is refused by one cause alone

-- if it is refused
abbrev Alone : {A : Type 0} → Cause → Outcome A → Type 0
Alone c (Valued x) = ⊤
Alone c (Refused cs) = least cs ≡ c

abbrev IsRefused : {A : Type 0} → Outcome A → Type 0
IsRefused (Valued x) = ⊥
IsRefused (Refused cs) = ⊤

lesser_same : (c d e : Cause) → d ≡ c → e ≡ c → lesser d e ≡ c
lesser_same c d e p q = by_test (nat_le (number_of d) (number_of e))
  where
    by_test : (b : Bool) → (if b then d else e) ≡ c
    by_test true = p
    by_test false = q

module _ {A B C : Type 0} (c : Cause) (k : A → B → C) where
  both_alone : (o : Outcome A) (p : Outcome B) → Alone c o → Alone c p → Alone c (with_both o p (λ x y. Valued (k x y)))
  both_alone (Valued x) (Valued y) a b = tt
  both_alone (Valued x) (Refused ds) a b = b
  both_alone (Refused cs) (Valued y) a b = a
  both_alone (Refused cs) (Refused ds) a b = lesser_same c (least cs) (least ds) a b

  first_refused : (o : Outcome A) (p : Outcome B) → IsRefused o → IsRefused (with_both o p (λ x y. Valued (k x y)))
  first_refused (Valued x) p r = absurd r
  first_refused (Refused cs) (Valued y) r = tt
  first_refused (Refused cs) (Refused ds) r = tt

  second_refused : (o : Outcome A) (p : Outcome B) → IsRefused p → IsRefused (with_both o p (λ x y. Valued (k x y)))
  second_refused o (Valued y) r = absurd r
  second_refused (Valued x) (Refused ds) r = tt
  second_refused (Refused cs) (Refused ds) r = tt

named_alone : {A : Type 0} (c : Cause) (o : Outcome A) → Alone c o → IsRefused o → named_cause o ≡ Some c
named_alone c (Valued x) a r = absurd r
named_alone c (Refused cs) a r = ap Some a

module _ (h : Heading) where
  fitted_alone : (t : Tuple) → Alone causes.Heading (fitted h t)
  fitted_alone t = rw (fitted_is h t) (by_test (same_heading (heading_of t) h))
    where
      by_test : (b : Bool) → Alone causes.Heading (value_if b t causes.Heading)
      by_test true = tt
      by_test false = refl

  all_alone : (ts : List Tuple) → Alone causes.Heading (gathered (map (fitted h) ts))
  all_alone [] = tt
  all_alone (t ∷ ts) = both_alone causes.Heading (λ x xs. x ∷ xs) (fitted h t) (gathered (map (fitted h) ts)) (fitted_alone t) (all_alone ts)

  one_refused : (ts : List Tuple) (i : ℕ) (d : Tuple) → i < length ts → IsRefused (fitted h (get_or ts i d)) → IsRefused (gathered (map (fitted h) ts))
  one_refused [] i d inside r = absurd (omega (arith, inside))
  one_refused (t ∷ ts) zero d inside r = first_refused causes.Heading (λ x xs. x ∷ xs) (fitted h t) (gathered (map (fitted h) ts)) r
  one_refused (t ∷ ts) (suc i) d inside r =
      second_refused causes.Heading (λ x xs. x ∷ xs) (fitted h t) (gathered (map (fitted h) ts)) (one_refused ts i d (omega (arith, inside)) r)

  -- where one is not of the heading, that is the cause
  pub misfit : {X : Type 0} (view : X → List Tuple) (u : ⊤) (ts : List Tuple) (i : ℕ) (t : Tuple) (e : Fault) → i < length ts → t ≡ get_or ts i t
      → Answers (λ (told : ⊤). told) (Err e) (value_if (same_heading (heading_of t) h) u causes.Heading) → Answers view (Err e) (gathered (map (fitted h) ts))
  misfit view u ts i t faults.Memory inside is a = tt
  misfit view u ts i t (faults.Refused cause) inside is a = by_test (same_heading (heading_of t) h) refl a
    where
      by_test : (b : Bool) → same_heading (heading_of t) h ≡ b → named_cause (value_if b u causes.Heading) ≡ Some cause → named_cause (gathered (map (fitted h) ts)) ≡ Some cause
      by_test true same n = absurd (cc)
      by_test false other n =
          let refused : IsRefused (fitted h t) = rw (fitted_is h t, other) tt in
          named_alone causes.Heading (gathered (map (fitted h) ts)) (all_alone ts) (one_refused ts i t inside (rw (← is) refused)) ∙ n

  -- one more is of the heading
  pub one_more_fits : (ts : List Tuple) (i : ℕ) (t : Tuple) → i < length ts → t ≡ get_or ts i t → same_heading (heading_of t) h ≡ true → IsTupleOf h t
      → gathered (map (fitted h) (take i ts)) ≡ Valued (take i ts) → All (IsTupleOf h) (take i ts)
      → (gathered (map (fitted h) (take (i + 1) ts)) ≡ Valued (take (i + 1) ts)) × All (IsTupleOf h) (take (i + 1) ts)
  one_more_fits ts i t inside is same fits valued all =
      let next = take_more ts i t inside ∙ ap (λ u. take i ts ++ u ∷ []) (sym is) in (
        valued_next (fitted h) ts i t (take i ts) t inside is valued (fitted_is h t ∙ rw same refl) ∙ ap Valued (sym next),
        subst (All (IsTupleOf h)) (sym next) (All-push (IsTupleOf h) (take i ts) t all fits),
      )
