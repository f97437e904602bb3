-- Outcomes that have a value, or a cause that no evaluation has: what follows from them is such too, and one of them that has a
-- type has a value.
use Rattle.std.proofs.Common.{◌≡◌, inl, ℕ, Bool, true, false, Contains, List, [], ◌∷◌, Option, Some, None, map, refl}
use Rattle.std.specs.Prelude.{⊤}
use Rattle.std.specs.List.{AllByRecursion}
use Rattle.td_algebra.proofs.Lists.{contains_first, contains_later}
use Rattle.td_check.specs.model.OperatorTypes.{known_or, over_relation, over_tuple}
use Rattle.td_eval.specs.model.OperatorValues.{on_relation, on_relations, on_text, on_truth, on_truths, on_tuple}
use Rattle.td_eval.specs.laws.ValueTypes.{IsDynamic, IsOfType, KeepsType}
use Rattle.td_tree.specs.declared.cause.Cause.{Cause}
use Rattle.td_tree.specs.declared.cause.Cause.TheVariants as causes
use Rattle.td_tree.specs.model.Outcomes.{Causes, Has, Outcome, Valued, Refused, gathered, value_if, with_both, with_value}
use Rattle.td_types.specs.model.TypeLists.{DeclaredType}
use Rattle.td_types.specs.model.Types.{Type', Heading, unpack}
use Rattle.td_types.specs.model.Types as types
use Rattle.td_value.specs.model.Values.{Val, boolean, char, tuple, relation, Relation, Tuple, unpack_fields, unpack_rows, relation_view}

-- one of the causes is not dynamic
abbrev pub HasStatic : Causes → Type 0
HasStatic cs = (c : Cause) × Has cs c × (IsDynamic c → ⊥)

-- a value, or such causes
abbrev pub IsStatic : {A : Type 0} → Outcome A → Type 0
IsStatic (Valued x) = ⊤
IsStatic (Refused cs) = HasStatic cs

-- what has a type has a value of it, or dynamic causes alone
pub has_value : (ds : List DeclaredType) (t : Type') (o : Outcome Val) → KeepsType ds (Valued t) o → IsStatic o
    → (v : Val) × (o ≡ Valued v) × IsOfType ds v t
has_value ds t (Valued v) k s = (v, refl, k)
has_value ds t (Refused cs) k s = absurd (s.2 (k s.0 s.1))

-- ---- what follows

pub with_static : {A B : Type 0} (o : Outcome A) (f : A → Outcome B) → IsStatic o → ((x : A) → IsStatic (f x)) → IsStatic (with_value o f)
with_static (Valued x) f k h = h x
with_static (Refused cs) f k h = k

pub both_static : {A B C : Type 0} (o : Outcome A) (p : Outcome B) (f : A → B → Outcome C) → IsStatic o → IsStatic p
    → ((x : A) (y : B) → IsStatic (f x y)) → IsStatic (with_both o p f)
both_static (Valued x) (Valued y) f k l h = h x y
both_static (Valued x) (Refused ds) f k l h = l
both_static (Refused cs) (Valued y) f k l h = k
both_static (Refused cs) (Refused ds) f k l h = (k.0, inl k.1, k.2)

pub gathered_static : {X A : Type 0} (f : X → Outcome A) (xs : List X) → ((x : X) → Contains xs x → IsStatic (f x)) → IsStatic (gathered (map f xs))
gathered_static f [] h = tt
gathered_static f (x ∷ xs) h =
    both_static (f x) (gathered (map f xs)) (λ y ys. Valued (y ∷ ys)) (h x (contains_first x xs))
    (gathered_static f xs (λ y c. h y (contains_later x xs y c))) (λ y ys. tt)

pub list_static : {A : Type 0} (os : List (Outcome A)) → AllByRecursion (λ (o : Outcome A). IsStatic o) os → IsStatic (gathered os)
list_static [] h = tt
list_static (o ∷ os) h = both_static o (gathered os) (λ y ys. Valued (y ∷ ys)) h.0 (list_static os h.1) (λ y ys. tt)

-- ---- what is asked

pub test_static : {A : Type 0} (test : Bool) (x : A) (cause : Cause) → (IsDynamic cause → ⊥) → IsStatic (value_if test x cause)
test_static true x cause k = tt
test_static false x cause k = (cause, refl, k)

pub known_static : {A : Type 0} (cause : Cause) (o : Option A) → (IsDynamic cause → ⊥) → IsStatic (known_or cause o)
known_static cause (Some x) k = tt
known_static cause None k = (cause, refl, k)

module _ {A : Type 0} where
  pub truth_static : (v : Val) (f : Bool → Outcome A) → ((b : Bool) → IsStatic (f b)) → IsStatic (on_truth v f)
  truth_static (boolean b) f k = k b
  truth_static _ f k = (causes.TypeMismatch, refl, λ h. h)

  pub text_static : (v : Val) (f : List ℕ → Outcome A) → ((s : List ℕ) → IsStatic (f s)) → IsStatic (on_text v f)
  text_static (char s) f k = k s
  text_static _ f k = (causes.TypeMismatch, refl, λ h. h)

  pub tuple_static : (v : Val) (f : Tuple → Outcome A) → ((t : Tuple) → IsStatic (f t)) → IsStatic (on_tuple v f)
  tuple_static (tuple fs) f k = k (unpack_fields fs)
  tuple_static _ f k = (causes.TypeMismatch, refl, λ h. h)

  pub relation_static : (v : Val) (f : Relation → Outcome A) → ((r : Relation) → IsStatic (f r)) → IsStatic (on_relation v f)
  relation_static (relation h rs) f k = k (relation_view (unpack h) (unpack_rows rs))
  relation_static _ f k = (causes.TypeMismatch, refl, λ h. h)

  -- of a type
  pub over_relation_static : (t : Type') (f : Heading → Outcome A) → ((h : Heading) → IsStatic (f h)) → IsStatic (over_relation t f)
  over_relation_static (types.relation h) f k = k (unpack h)
  over_relation_static _ f k = (causes.TypeMismatch, refl, λ h. h)

  pub over_tuple_static : (t : Type') (f : Heading → Outcome A) → ((h : Heading) → IsStatic (f h)) → IsStatic (over_tuple t f)
  over_tuple_static (types.tuple h) f k = k (unpack h)
  over_tuple_static _ f k = (causes.TypeMismatch, refl, λ h. h)

-- of two values
pub truths_static : (v w : Val) (f : Bool → Bool → Outcome Val) → ((a b : Bool) → IsStatic (f a b)) → IsStatic (on_truths v w f)
truths_static v w f k = truth_static v (λ a. on_truth w (λ b. f a b)) (λ a. truth_static w (λ b. f a b) (λ b. k a b))

pub relations_static : (v w : Val) (f : Relation → Relation → Outcome Val) → ((q r : Relation) → IsStatic (f q r)) → IsStatic (on_relations v w f)
relations_static v w f k =
    relation_static v (λ q. on_relation w (λ r. f q r)) (λ q. relation_static w (λ r. f q r) (λ r. k q r))
