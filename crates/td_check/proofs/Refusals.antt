-- What is made of outcomes that are refused by some causes alone is refused by these alone.
use Rattle.std.proofs.Common.{◌∷◌, Bool, true, false, List, [], map, inl, inr, Option, Some, None, subst, sym}
use Rattle.td_check.specs.model.OperatorTypes.{known_or, over_relation, over_tuple}
use Rattle.td_check.specs.laws.StaticCauses.{IsRefusedOnlyBy}
use Rattle.td_tree.specs.declared.cause.Cause.{Cause}
use Rattle.td_tree.specs.declared.cause.Cause.TheVariants as causes
use Rattle.td_tree.specs.model.Outcomes.{Has, Outcome, Valued, Refused, Only, gathered, value_if, with_both, with_value}
use Rattle.td_types.specs.model.Types.{Heading, Type', unpack}
use Rattle.td_types.specs.model.Types as types

module _ (P : Cause → Type 0) where
  pub by_one : (c : Cause) → P c → (d : Cause) → Has (Only c) d → P d
  by_one c p d h = subst P (sym h) p

  pub by_test : {A : Type 0} (test : Bool) (x : A) (c : Cause) → P c → IsRefusedOnlyBy P (value_if test x c)
  by_test true x c p = tt
  by_test false x c p = by_one c p

  pub by_known : {A : Type 0} (c : Cause) (o : Option A) → P c → IsRefusedOnlyBy P (known_or c o)
  by_known c (Some x) p = tt
  by_known c None p = by_one c p

  pub by_value : {A B : Type 0} (o : Outcome A) (f : A → Outcome B) → IsRefusedOnlyBy P o → ((x : A) → IsRefusedOnlyBy P (f x)) → IsRefusedOnlyBy P (with_value o f)
  by_value (Valued x) f p q = q x
  by_value (Refused cs) f p q = p

  pub by_both : {A B C : Type 0} (o : Outcome A) (q : Outcome B) (f : A → B → Outcome C) → IsRefusedOnlyBy P o → IsRefusedOnlyBy P q
      → ((x : A) (y : B) → IsRefusedOnlyBy P (f x y)) → IsRefusedOnlyBy P (with_both o q f)
  by_both (Valued x) (Valued y) f p r s = s x y
  by_both (Valued x) (Refused ds) f p r s = r
  by_both (Refused cs) (Valued y) f p r s = p
  by_both (Refused cs) (Refused ds) f p r s = λ c h. elim h as (λ _. P c) [ inl a ↦ p c a | inr b ↦ r c b ]

  pub by_each : {A B : Type 0} (f : A → Outcome B) (xs : List A) → ((x : A) → IsRefusedOnlyBy P (f x)) → IsRefusedOnlyBy P (gathered (map f xs))
  by_each f [] p = tt
  by_each f (x ∷ xs) p = by_both (f x) (gathered (map f xs)) _ (p x) (by_each f xs p) (λ y ys. tt)

  module _ (mismatched : P causes.TypeMismatch) where
    pub by_relation : {A : Type 0} (t : Type') (f : Heading → Outcome A) → ((h : Heading) → IsRefusedOnlyBy P (f h)) → IsRefusedOnlyBy P (over_relation t f)
    by_relation types.boolean f p = by_one causes.TypeMismatch mismatched
    by_relation types.integer f p = by_one causes.TypeMismatch mismatched
    by_relation types.char f p = by_one causes.TypeMismatch mismatched
    by_relation (types.user n) f p = by_one causes.TypeMismatch mismatched
    by_relation (types.tuple xs) f p = by_one causes.TypeMismatch mismatched
    by_relation (types.relation xs) f p = p (unpack xs)

    pub by_tuple : {A : Type 0} (t : Type') (f : Heading → Outcome A) → ((h : Heading) → IsRefusedOnlyBy P (f h)) → IsRefusedOnlyBy P (over_tuple t f)
    by_tuple types.boolean f p = by_one causes.TypeMismatch mismatched
    by_tuple types.integer f p = by_one causes.TypeMismatch mismatched
    by_tuple types.char f p = by_one causes.TypeMismatch mismatched
    by_tuple (types.user n) f p = by_one causes.TypeMismatch mismatched
    by_tuple (types.relation xs) f p = by_one causes.TypeMismatch mismatched
    by_tuple (types.tuple xs) f p = p (unpack xs)
