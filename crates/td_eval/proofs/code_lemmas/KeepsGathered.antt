-- Outcomes whose values keep a property and whose causes are dynamic: what follows from them keeps it.
use Rattle.std.proofs.Common.{◌≡◌, ◌⊎◌, inl, inr, List, [], ◌∷◌, map, subst, sym}
use Rattle.std.specs.Prelude.{◌↔◌}
use Rattle.std.specs.List.{AllByRecursion, Contains}
use Rattle.td_tree.specs.declared.cause.Cause.{Cause}
use Rattle.td_tree.specs.model.Outcomes.{Causes, Only, Union, Outcome, Valued, Refused, gathered, with_value, with_both}
use Rattle.td_types.specs.model.TypeLists.{DeclaredType}
use Rattle.td_types.specs.model.Types.{Attrs, Type'}
use Rattle.td_value.specs.model.KnownValues.{HasHeading, HaveHeading}
use Rattle.td_value.specs.model.Values.{Tuple, Val, pack_fields, pack_rows}
use Rattle.td_eval.specs.laws.ValueTypes.{AreDynamic, IsDynamic, IsOfType, KeepsType}
use Rattle.td_algebra.proofs.Lists.{contains_cases, contains_first, contains_later, contains_none}

-- a value that has the property, or dynamic causes
abbrev pub Keeps : {A : Type 0} → (A → Type 0) → Outcome A → Type 0
Keeps P (Valued x) = P x
Keeps P (Refused cs) = AreDynamic cs

-- for values, that is what a type asks
pub keeps_type : (ds : List DeclaredType) (t : Type') (o : Outcome Val) → Keeps (λ v. IsOfType ds v t) o → KeepsType ds (Valued t) o
keeps_type ds t (Valued v) k = k
keeps_type ds t (Refused cs) k = k

pub type_keeps : (ds : List DeclaredType) (t : Type') (o : Outcome Val) → KeepsType ds (Valued t) o → Keeps (λ v. IsOfType ds v t) o
type_keeps ds t (Valued v) k = k
type_keeps ds t (Refused cs) k = k

-- ---- causes

-- one such cause
pub one_dynamic : (c : Cause) → IsDynamic c → AreDynamic (Only c)
one_dynamic c k d has = subst IsDynamic (sym has) k

-- the causes of both
pub both_dynamic : (cs ds : Causes) → AreDynamic cs → AreDynamic ds → AreDynamic (Union cs ds)
both_dynamic cs ds h k c (inl e) = h c e
both_dynamic cs ds h k c (inr e) = k c e

-- ---- what follows

module _ {A B : Type 0} (P : A → Type 0) (Q : B → Type 0) where
  pub with_value_keeps : (o : Outcome A) (f : A → Outcome B) → Keeps P o → ((x : A) → P x → Keeps Q (f x)) → Keeps Q (with_value o f)
  with_value_keeps (Valued x) f k h = h x k
  with_value_keeps (Refused cs) f k h = k

module _ {A B C : Type 0} (P : A → Type 0) (Q : B → Type 0) (R : C → Type 0) where
  pub with_both_keeps : (o : Outcome A) (p : Outcome B) (f : A → B → Outcome C) → Keeps P o → Keeps Q p
      → ((x : A) (y : B) → P x → Q y → Keeps R (f x y)) → Keeps R (with_both o p f)
  with_both_keeps (Valued x) (Valued y) f k l h = h x y k l
  with_both_keeps (Valued x) (Refused ds) f k l h = l
  with_both_keeps (Refused cs) (Valued y) f k l h = k
  with_both_keeps (Refused cs) (Refused ds) f k l h = both_dynamic cs ds k l

-- the values of a list of such outcomes have the property
pub gathered_dynamic : {A : Type 0} (P : A → Type 0) (os : List (Outcome A)) → AllByRecursion (λ (o : Outcome A). Keeps P o) os
    → Keeps (AllByRecursion P) (gathered os)
gathered_dynamic P [] h = tt
gathered_dynamic P (o ∷ os) h =
    with_both_keeps P (AllByRecursion P) (AllByRecursion P) o (gathered os) (λ x xs. Valued (x ∷ xs)) h.0 (gathered_dynamic P os h.1) (λ x xs p ps. (p, ps))

-- what is true of each member is true of each item, and the other way
module _ {A : Type 0} (P : A → Type 0) where
  pub all_from_members : (xs : List A) → ((x : A) → Contains xs x → P x) → AllByRecursion P xs
  all_from_members [] h = tt
  all_from_members (x ∷ xs) h = (h x (contains_first x xs), all_from_members xs (λ y c. h y (contains_later x xs y c)))

  pub member_from_all : (xs : List A) → AllByRecursion P xs → (x : A) → Contains xs x → P x
  member_from_all [] h y c = absurd (contains_none y c)
  member_from_all (x ∷ xs) h y c = by_case (member_from_all xs h.1 y) (contains_cases x xs y c)
    where
      by_case : (Contains xs y → P y) → (x ≡ y) ⊎ Contains xs y → P y
      by_case rest (inl is) = subst P is h.0
      by_case rest (inr d) = rest d

-- what is gathered of the members of a list
pub gathered_map_keeps : {X A : Type 0} (P : A → Type 0) (f : X → Outcome A) (xs : List X) → ((x : X) → Contains xs x → Keeps P (f x))
    → Keeps (AllByRecursion P) (gathered (map f xs))
gathered_map_keeps P f [] h = tt
gathered_map_keeps P f (x ∷ xs) h =
    with_both_keeps P (AllByRecursion P) (AllByRecursion P) (f x) (gathered (map f xs)) (λ y ys. Valued (y ∷ ys)) (h x (contains_first x xs))
    (gathered_map_keeps P f xs (λ y c. h y (contains_later x xs y c))) (λ y ys p ps. (p, ps))

-- ---- tuples of a heading

rows_have : (ds : List DeclaredType) (ts : List Tuple) (h : Attrs) → HaveHeading ds (pack_rows ts) h → AllByRecursion (λ (t : Tuple). HasHeading ds (pack_fields t) h) ts
rows_have ds [] h k = tt
rows_have ds (t ∷ ts) h k = (k.0, rows_have ds ts h k.1)

have_rows : (ds : List DeclaredType) (ts : List Tuple) (h : Attrs) → AllByRecursion (λ (t : Tuple). HasHeading ds (pack_fields t) h) ts → HaveHeading ds (pack_rows ts) h
have_rows ds [] h k = tt
have_rows ds (t ∷ ts) h k = (k.0, have_rows ds ts h k.1)

-- the tuples of a relation have the heading where each of them has it
pub has_type_rows : (ds : List DeclaredType) (ts : List Tuple) (h : Attrs)
    → HaveHeading ds (pack_rows ts) h ↔ AllByRecursion (λ (t : Tuple). HasHeading ds (pack_fields t) h) ts
has_type_rows ds ts h = (rows_have ds ts h, have_rows ds ts h)

-- the same by membership
pub has_type_members : (ds : List DeclaredType) (ts : List Tuple) (h : Attrs)
    → HaveHeading ds (pack_rows ts) h ↔ ((t : Tuple) → Contains ts t → HasHeading ds (pack_fields t) h)
has_type_members ds ts h = (
  λ k. member_from_all (λ (t : Tuple). HasHeading ds (pack_fields t) h) ts (rows_have ds ts h k),
  λ k. have_rows ds ts h (all_from_members (λ (t : Tuple). HasHeading ds (pack_fields t) h) ts k),
)
