-- What is gathered of the answers for the elements of a list, and what is answered at the end.
use Rattle.std.proofs.Common.{◌≡◌, ◌∙◌, ◌∷◌, ◌++◌, ◌+◌, ◌<◌, ℕ, List, [], Option, Some, None, Result, Ok, Err, ap, get_or, length, map, refl, sym, take}
use Rattle.std.proofs.lemmas.List.{map-append, take_more}
use Rattle.td_tree.specs.declared.cause.Cause.{Cause}
use Rattle.td_tree.specs.declared.fault.Fault.{Fault}
use Rattle.td_tree.specs.declared.fault.Fault.TheVariants as faults
use Rattle.td_tree.specs.code.Gatherings.{IsGathered, IsRest, answer_of, cause_of, lesser_cause}
use Rattle.td_tree.specs.model.Outcomes.{Answers, Outcome, Valued, Refused, gathered, named_cause, with_value}
use Rattle.td_tree.proofs.code_lemmas.Gatherings.{gathered_more}

-- what is said of elements that stand for others
pub map_twice : {X Y Z : Type 0} (g : Y → Z) (f : X → Y) (xs : List X) → map g (map f xs) ≡ map (λ x. g (f x)) xs
map_twice g f [] = refl
map_twice g f (x ∷ xs) = ap (λ zs. g (f x) ∷ zs) (map_twice g f xs)

-- what holds of one element more
taken_more : {X A : Type 0} (f : X → A) (xs : List X) (i : ℕ) (x : X) → i < length xs → x ≡ get_or xs i x
    → map f (take i xs) ++ (f x ∷ []) ≡ map f (take (i + 1) xs)
taken_more f xs i x inside is =
    sym (ap (map f) (take_more xs i x inside) ∙ map-append f (take i xs) (get_or xs i x ∷ [])
    ∙ ap (λ z. map f (take i xs) ++ (f z ∷ [])) (sym is))

-- one more answer of a test, which has a value of its own only in what it stands for
pub test_gathered : {X A : Type 0} (E : Type 0) (value : X → A) (f : X → Outcome A) (xs : List X) (i : ℕ) (x : X) → i < length xs → x ≡ get_or xs i x
    → (least : Option Cause) (r : Result (Unit {0}) Fault) (given : Option (Unit {0})) (new : Option Cause)
    → IsGathered least (map value (take i xs)) (map f (take i xs)) → Answers (λ _. value x) r (f x)
    → IsRest {E = E} r (Ok given) → new ≡ lesser_cause least (cause_of r)
    → IsGathered new (map value (take (i + 1) xs)) (map f (take (i + 1) xs))
test_gathered {A = A} E value f xs i x inside is least (Ok u) (Some v) new so_far answers rest cause =
    rw (cause, ← taken_more value xs i x inside is, ← taken_more f xs i x inside is)
    (gathered_more {E = E} (λ _. value x) least (map value (take i xs)) (map f (take i xs)) (Ok u) (Ok (Some v)) (f x) so_far answers rest)
test_gathered E value f xs i x inside is least (Ok u) None new so_far answers rest cause = absurd (cc)
test_gathered E value f xs i x inside is least (Err (faults.Refused d)) (Some v) new so_far answers rest cause = absurd (cc)
test_gathered {A = A} E value f xs i x inside is least (Err (faults.Refused d)) None new so_far answers rest cause =
    rw (cause, ← taken_more f xs i x inside is)
    (of_least least (gathered_more {E = E} (λ _. value x) least (map value (take i xs)) (map f (take i xs)) (Err (faults.Refused d)) (Ok None) (f x) so_far answers rest))
  where
    of_least : (l : Option Cause) → IsGathered (lesser_cause l (Some d)) (map value (take i xs) ++ []) (map f (take i xs) ++ f x ∷ [])
        → IsGathered (lesser_cause l (Some d)) (map value (take (i + 1) xs)) (map f (take i xs) ++ f x ∷ [])
    of_least None g = g
    of_least (Some c) g = g
test_gathered E value f xs i x inside is least (Err faults.Memory) given new so_far answers rest cause = absurd rest

-- what is answered at the end, where something follows of the values
pub answered_with : {X A B : Type 0} (view : X → B) (least : Option Cause) (x : X) (values : List A) (os : List (Outcome A)) (f : List A → Outcome B)
    → IsGathered least values os → f values ≡ Valued (view x) → Answers view (answer_of least x) (with_value (gathered os) f)
answered_with view None x values os f g e = rw g e
answered_with {A = A} view (Some c) x values os f g e = by_outcome (gathered os) g
  where
    by_outcome : (o : Outcome (List A)) → named_cause o ≡ Some c → named_cause (with_value o f) ≡ Some c
    by_outcome (Valued xs) h = absurd (cc)
    by_outcome (Refused cs) h = h
