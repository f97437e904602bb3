-- What is gathered of answers, one after another.
use Rattle.std.proofs.Common.{◌≡◌, ◌≤◌, ◌<◌, ◌⊎◌, inl, inr, ◌∙◌, ◌+◌, ap, sym, true, false, ℕ, List, [], ◌∷◌, ◌++◌, Option, Some, None, Result, Ok, Err, IfOk, refl, if◌then◌else◌, arith, get_or, length, map, subst, take}
use Rattle.std.proofs.lemmas.List.{append-nil, map-append, take_more}
use Rattle.std.proofs.lemmas.List.Elements.{All-push}
use Rattle.std.specs.List.{All}
use Rattle.std.specs.Prelude.{nat_le}
use Rattle.std.proofs.lemmas.Bool.Decides.{leb_tells}
use Rattle.td_tree.specs.model.Causes.{number_of}
use Rattle.td_tree.specs.code.Gatherings.{HasValue, IsCollected, IsGathered, IsRest, answer_of, cause_of, lesser_cause}
use Rattle.td_tree.specs.model.Outcomes.{Answers, Outcome, Valued, Refused, gathered, lesser, named_cause, with_both}
use Rattle.td_tree.specs.declared.cause.Cause.{Cause}
use Rattle.td_tree.specs.declared.fault.Fault.{Fault}
use Rattle.td_tree.specs.declared.fault.Fault.TheVariants as faults

lesser_first : (c d : Cause) → number_of c ≤ number_of d → lesser c d ≡ c
lesser_first c d h = by_test (leb_tells (number_of c) (number_of d))
  where
    by_test : ((nat_le (number_of c) (number_of d) ≡ true) × (number_of c ≤ number_of d))
        ⊎ ((nat_le (number_of c) (number_of d) ≡ false) × (number_of d < number_of c)) → lesser c d ≡ c
    by_test (inl t) = ap (λ b. if b then c else d) t.0
    by_test (inr f) = absurd (omega (arith, h, f.1))

lesser_second : (c d : Cause) → number_of d < number_of c → lesser c d ≡ d
lesser_second c d h = by_test (leb_tells (number_of c) (number_of d))
  where
    by_test : ((nat_le (number_of c) (number_of d) ≡ true) × (number_of c ≤ number_of d))
        ⊎ ((nat_le (number_of c) (number_of d) ≡ false) × (number_of d < number_of c)) → lesser c d ≡ d
    by_test (inl t) = absurd (omega (arith, h, t.1))
    by_test (inr f) = ap (λ b. if b then c else d) f.0

-- the first of the two stands no later, or after the second
abbrev Tells : Cause → Cause → Type 0
Tells c d = (number_of c ≤ number_of d) ⊎ (number_of d < number_of c)

tells : (c d : Cause) → Tells c d
tells c d = by_test (leb_tells (number_of c) (number_of d))
  where
    by_test : ((nat_le (number_of c) (number_of d) ≡ true) × (number_of c ≤ number_of d))
        ⊎ ((nat_le (number_of c) (number_of d) ≡ false) × (number_of d < number_of c)) → Tells c d
    by_test (inl t) = inl t.1
    by_test (inr f) = inr f.1

lesser_of_three : (c d e : Cause) → lesser (lesser c d) e ≡ lesser c (lesser d e)
lesser_of_three c d e = by_order (tells c d) (tells d e)
  where
    by_order : Tells c d → Tells d e → lesser (lesser c d) e ≡ lesser c (lesser d e)
    by_order (inl cd) (inl de) =
        ap (λ x. lesser x e) (lesser_first c d cd) ∙ lesser_first c e (omega (arith, cd, de))
        ∙ sym (lesser_first c d cd) ∙ ap (λ x. lesser c x) (sym (lesser_first d e de))
    by_order (inl cd) (inr ed) =
        ap (λ x. lesser x e) (lesser_first c d cd) ∙ ap (λ x. lesser c x) (sym (lesser_second d e ed))
    by_order (inr dc) (inl de) =
        ap (λ x. lesser x e) (lesser_second c d dc) ∙ lesser_first d e de
        ∙ sym (lesser_second c d dc) ∙ ap (λ x. lesser c x) (sym (lesser_first d e de))
    by_order (inr dc) (inr ed) =
        ap (λ x. lesser x e) (lesser_second c d dc) ∙ lesser_second d e ed
        ∙ sym (lesser_second c e (omega (arith, dc, ed))) ∙ ap (λ x. lesser c x) (sym (lesser_second d e ed))

pub lesser_cause_of_three : (a b c : Option Cause)
    → lesser_cause (lesser_cause a b) c ≡ lesser_cause a (lesser_cause b c)
lesser_cause_of_three None b c = refl
lesser_cause_of_three (Some x) None c = refl
lesser_cause_of_three (Some x) (Some y) None = refl
lesser_cause_of_three (Some x) (Some y) (Some z) = ap Some (lesser_of_three x y z)

-- the cause of two outcomes is the lesser of theirs
pub named_of_both : {A B C : Type 0} (o : Outcome A) (p : Outcome B) (f : A → B → C)
    → named_cause (with_both o p (λ x y. Valued (f x y))) ≡ lesser_cause (named_cause o) (named_cause p)
named_of_both (Valued x) (Valued y) f = refl
named_of_both (Valued x) (Refused ds) f = refl
named_of_both (Refused cs) (Valued y) f = refl
named_of_both (Refused cs) (Refused ds) f = refl

-- the cause of one more outcome counts with those before
named_of_more : {A : Type 0} (os : List (Outcome A)) (o : Outcome A)
    → named_cause (gathered (os ++ o ∷ [])) ≡ lesser_cause (named_cause (gathered os)) (named_cause o)
named_of_more [] (Valued x) = refl
named_of_more [] (Refused cs) = refl
named_of_more (p ∷ os) o =
    named_of_both p (gathered (os ++ o ∷ [])) (λ x xs. x ∷ xs)
    ∙ ap (λ c. lesser_cause (named_cause p) c) (named_of_more os o)
    ∙ sym (lesser_cause_of_three (named_cause p) (named_cause (gathered os)) (named_cause o))
    ∙ ap (λ c. lesser_cause c (named_cause o)) (sym (named_of_both p (gathered os) (λ x xs. x ∷ xs)))

-- so does its value
values_of_more : {A : Type 0} (os : List (Outcome A)) (xs : List A) (x : A) → gathered os ≡ Valued xs
    → gathered (os ++ Valued x ∷ []) ≡ Valued (xs ++ x ∷ [])
values_of_more [] [] x e = refl
values_of_more [] (y ∷ ys) x e = absurd (cc)
values_of_more {A = A} (Valued p ∷ os) xs x e = by_rest (gathered os) refl (λ ys r. values_of_more os ys x r)
  where
    by_rest : (o : Outcome (List A)) → gathered os ≡ o
        → ((ys : List A) → gathered os ≡ Valued ys → gathered (os ++ Valued x ∷ []) ≡ Valued (ys ++ x ∷ []))
        → with_both (Valued p) (gathered (os ++ Valued x ∷ [])) (λ y ys. Valued (y ∷ ys)) ≡ Valued (xs ++ x ∷ [])
    by_rest (Valued ys) r more = rw (more ys r) (let same : xs ≡ p ∷ ys = cc in rw same refl)
    by_rest (Refused cs) r more = absurd (cc)
values_of_more {A = A} (Refused cs ∷ os) xs x e = by_rest (gathered os) refl
  where
    by_rest : (o : Outcome (List A)) → gathered os ≡ o
        → with_both (Refused cs) (gathered (os ++ Valued x ∷ [])) (λ y ys. Valued (y ∷ ys)) ≡ Valued (xs ++ x ∷ [])
    by_rest (Valued ys) r = absurd (cc)
    by_rest (Refused ds) r = absurd (cc)

-- nothing is gathered of no answers
pub gathered_none : {A : Type 0} → IsGathered {A = A} None [] []
gathered_none = refl

-- the value that was given, if one was
abbrev pub given_value : {X A : Type 0} → (X → A) → Option X → List A
given_value view None = []
given_value view (Some x) = view x ∷ []

-- what is gathered once one more answer is added
pub gathered_more : {X A E : Type 0} (view : X → A) (least : Option Cause) (xs : List A) (os : List (Outcome A))
    (r : Result X Fault) (rest : Result (Option X) E) (o : Outcome A)
    → IsGathered least xs os → Answers view r o → IsRest r rest
    → IfOk rest (λ given. IsGathered (lesser_cause least (cause_of r)) (xs ++ given_value view given) (os ++ o ∷ []))
gathered_more view least xs os (Ok x) (Ok (Some y)) o h a e = of_least least h
  where
    same : y ≡ x
    same = cc

    of_least : (l : Option Cause) → IsGathered l xs os → IsGathered (lesser_cause l None) (xs ++ view y ∷ []) (os ++ o ∷ [])
    of_least None g = rw (a, same) (values_of_more os xs (view x) g)
    of_least (Some c) g = rw a (named_of_more os (Valued (view x)) ∙ ap (λ n. lesser_cause n None) g)
gathered_more view least xs os (Ok x) (Ok None) o h a e = absurd (cc)
gathered_more view least xs os (Ok x) (Err f) o h a e = absurd (cc)
gathered_more view least xs os (Err (faults.Refused d)) (Ok (Some y)) o h a e = absurd (cc)
gathered_more view least xs os (Err (faults.Refused d)) (Ok None) o h a e = of_least least h
  where
    of_least : (l : Option Cause) → IsGathered l xs os → IsGathered (lesser_cause l (Some d)) (xs ++ []) (os ++ o ∷ [])
    of_least None g =
        named_of_more os o ∙ ap (λ n. lesser_cause n (named_cause o)) (ap named_cause g) ∙ a
    of_least (Some c) g =
        named_of_more os o ∙ ap (λ n. lesser_cause n (named_cause o)) g ∙ ap (λ n. lesser_cause (Some c) n) a
gathered_more view least xs os (Err (faults.Refused d)) (Err f) o h a e = absurd (cc)
gathered_more view least xs os (Err faults.Memory) (Ok x) o h a e = absurd e
gathered_more view least xs os (Err faults.Memory) (Err f) o h a e = tt

-- the value that is left of an answer is put to the values
module _ {X : Type 0} (E : Type 0) (xs : List X) where
  pub value_put : (r : Result X Fault) (given : Option X) (x : X) (more : List X) → IsRest {E = E} r (Ok given) → given ≡ Some x → more ≡ xs ++ x ∷ []
      → HasValue r xs more
  value_put (Ok y) given x more rest is pushed =
      let same : x ≡ y = cc in
      pushed ∙ ap (λ z. xs ++ z ∷ []) same
  value_put (Err (faults.Refused d)) given x more rest is pushed = absurd (cc)
  value_put (Err faults.Memory) given x more rest is pushed = absurd rest

  pub none_put : (r : Result X Fault) (given : Option X) → IsRest {E = E} r (Ok given) → given ≡ None → HasValue r xs xs
  none_put (Ok y) given rest is = absurd (cc)
  none_put (Err (faults.Refused d)) given rest is = refl
  none_put (Err faults.Memory) given rest is = absurd rest

-- what is gathered once one more answer is collected
pub collected : {X A : Type 0} (view : X → A) {least new : Option Cause} {xs more : List X} {r : Result X Fault} (os : List (Outcome A)) (o : Outcome A)
    → IsGathered least (map view xs) os → Answers view r o → IsCollected r least xs new more → IsGathered new (map view more) (os ++ o ∷ [])
collected {X = X} {A = A} view {least = least} {new = new} {xs = xs} {more = more} {r = r} os o h a e =
    rw e.cause (by_answer r more a e.values)
  where
    by_answer : (s : Result X Fault) (ys : List X) → Answers view s o → HasValue s xs ys → IsGathered (lesser_cause least (cause_of s)) (map view ys) (os ++ o ∷ [])
    by_answer (Ok x) ys b v =
        rw (v, map-append view xs (x ∷ [])) (gathered_more {E = Unit} view least (map view xs) os (Ok x) (Ok (Some x)) o h b refl)
    by_answer (Err (faults.Refused d)) ys b v =
        rw (v, ← append-nil (map view xs)) (gathered_more {E = Unit} view least (map view xs) os (Err (faults.Refused d)) (Ok None) o h b refl)
    by_answer (Err faults.Memory) ys b v = absurd v

-- the same, of the answer for one more element after a list
pub collected_last : {X Y A : Type 0} (view : Y → A) (f : X → Outcome A) (xs : List X) (x : X) {least new : Option Cause} {ys more : List Y} {r : Result Y Fault}
    → IsGathered least (map view ys) (map f xs) → Answers view r (f x) → IsCollected r least ys new more
    → IsGathered new (map view more) (map f (xs ++ x ∷ []))
collected_last view f xs x h a e = rw (map-append f xs (x ∷ [])) (collected view (map f xs) (f x) h a e)

-- the same, of the answer for the next element of a list
pub collected_next : {X Y A : Type 0} (view : Y → A) (f : X → Outcome A) (xs : List X) (i : ℕ) {x : X} → i < length xs → x ≡ get_or xs i x
    → {least new : Option Cause} {ys more : List Y} {r : Result Y Fault}
    → IsGathered least (map view ys) (map f (take i xs)) → Answers view r (f x) → IsCollected r least ys new more
    → IsGathered new (map view more) (map f (take (i + 1) xs))
collected_next view f xs i {x = x} inside is {new = new} {more = more} h a e =
    subst (λ zs. IsGathered new (map view more) (map f zs)) (ap (λ z. take i xs ++ z ∷ []) is ∙ sym (take_more xs i x inside))
    (collected_last view f (take i xs) x h a e)

-- what holds of the values before and of the answer's holds of the values
pub collected_hold : {X : Type 0} (P : X → Type 0) {least new : Option Cause} {xs more : List X} {r : Result X Fault}
    → All P xs → IfOk r P → IsCollected r least xs new more → All P more
collected_hold {X = X} P {xs = xs} {more = more} {r = r} h p e = by_answer r p e.values
  where
    by_answer : (s : Result X Fault) → IfOk s P → HasValue s xs more → All P more
    by_answer (Ok x) q v = subst (All P) (sym v) (All-push P xs x h q)
    by_answer (Err (faults.Refused d)) q v = subst (All P) (sym v) h
    by_answer (Err faults.Memory) q v = absurd v

-- what is answered at the end is what the outcomes are together
pub answers_gathered : {X A : Type 0} (view : X → List A) (least : Option Cause) (value : X) (os : List (Outcome A))
    → IsGathered least (view value) os → Answers view (answer_of least value) (gathered os)
answers_gathered view None value os h = h
answers_gathered view (Some c) value os h = h
