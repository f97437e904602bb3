-- What a call answers of a value that a test gives.
use Rattle.std.proofs.Common.{◌≡◌, Bool, true, false, Result, Ok, Err, IfOk, refl}
use Rattle.std.specs.Prelude.{OnOk}
use Rattle.td_tree.specs.model.Outcomes.{Answers, value_if}
use Rattle.td_tree.specs.declared.cause.Cause.{Cause}
use Rattle.td_tree.specs.declared.fault.Fault.{Fault}
use Rattle.td_tree.specs.declared.fault.Fault.TheVariants.{Refused}

-- the value, where the test holds
pub answers_value : {A : Type 0} (x y : A) (test : Bool) (cause : Cause) → test ≡ true → x ≡ y
    → Answers (λ v. v) (Ok x) (value_if test y cause)
answers_value x y test cause t e = rw (t, e) refl

-- the cause, where it does not
pub answers_cause : {A : Type 0} (y : A) (test : Bool) (cause : Cause) → test ≡ false
    → Answers (λ (v : A). v) (Err (Refused cause)) (value_if test y cause)
answers_cause y test cause t = rw t refl

-- ---- what follows from such an answer

-- the test holds where there is a value
pub test_holds : {X A : Type 0} (view : X → A) (r : Result X Fault) (y : A) (test : Bool) (cause : Cause)
    → Answers view r (value_if test y cause) → OnOk r (test ≡ true)
test_holds view (Ok x) y true cause h = refl
test_holds view (Ok x) y false cause h = absurd (cc)
test_holds view (Err e) y test cause h = tt

-- it is the value
pub value_is : {X A : Type 0} (view : X → A) (r : Result X Fault) (y : A) (test : Bool) (cause : Cause)
    → Answers view r (value_if test y cause) → IfOk r (λ x. view x ≡ y)
value_is view (Ok x) y true cause h = let same : view x ≡ y = cc in same
value_is view (Ok x) y false cause h = absurd (cc)
value_is view (Err e) y test cause h = tt

-- a refusal is by the cause, and only where the test fails
pub refusal_is : {X A : Type 0} (view : X → A) (y : A) (test : Bool) (cause given : Cause)
    → Answers view (Err (Refused given)) (value_if test y cause) → (given ≡ cause) × (test ≡ false)
refusal_is view y true cause given h = absurd (cc)
refusal_is view y false cause given h = let same : given ≡ cause = cc in (same, refl)
