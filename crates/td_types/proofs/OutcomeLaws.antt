-- What follows from the value of an outcome that is made of others.
use Rattle.std.proofs.Common.{◌≡◌, Bool, true, false, refl}
use Rattle.td_tree.specs.declared.cause.Cause.{Cause}
use Rattle.td_tree.specs.model.Outcomes.{Outcome, Valued, Refused, with_value, with_both, value_if}

pub valued_is : {A : Type 0} (x y : A) → Valued x ≡ Valued y → x ≡ y
valued_is x y e = cc

module _ {A B : Type 0} where
  -- there was a value, and what followed had the value
  pub value_of_with : (o : Outcome A) (f : A → Outcome B) (y : B) → with_value o f ≡ Valued y
      → (x : A) × (o ≡ Valued x) × (f x ≡ Valued y)
  value_of_with (Valued x) f y e = (x, refl, e)
  value_of_with (Refused cs) f y e = absurd (cc)

module _ {A B C : Type 0} where
  -- there were both values
  pub values_of_both : (o : Outcome A) (p : Outcome B) (f : A → B → Outcome C) (y : C) → with_both o p f ≡ Valued y
      → (x : A) × (z : B) × (o ≡ Valued x) × (p ≡ Valued z) × (f x z ≡ Valued y)
  values_of_both (Valued x) (Valued z) f y e = (x, z, refl, refl, e)
  values_of_both (Valued x) (Refused ds) f y e = absurd (cc)
  values_of_both (Refused cs) (Valued z) f y e = absurd (cc)
  values_of_both (Refused cs) (Refused ds) f y e = absurd (cc)

-- the test held
pub value_of_test : {A : Type 0} (test : Bool) (x y : A) (cause : Cause) → value_if test x cause ≡ Valued y
    → (test ≡ true) × (x ≡ y)
value_of_test true x y cause e = (refl, valued_is x y e)
value_of_test false x y cause e = absurd (cc)
