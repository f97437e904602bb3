-- What holds where memory that was asked for is given.
use Rattle.std.proofs.Common.{◌≡◌, Bool, true, List, Option, Some, if◌then◌else◌, subst, sym}
use Rattle.std.specs.Global.{Vec}
use Rattle.std.specs.Prelude.{IfOk, IfSome, Result, Ok, Err}
use Rattle.std.specs.Result.{result_ok}
use Rattle.td_plan.specs.code.Quick.{AreInRows, AreQuick}
use Rattle.td_tree.specs.model.Outcomes.{Outcome}
use Rattle.td_value.specs.model.Values.{Tuple, Val}

pub granted : {T E : Type 0} (r : Result T E) (x : T) (P : T → Type 0) → Some x ≡ result_ok r → IfOk r P → P x
granted (Ok y) x P is p = subst P (let e : y ≡ x = cc in e) p
granted (Err e) x P is p = absurd (cc)

-- what a list is after more was put into it
pub pushed : {X : Type 0} {new more : List X} (b : Bool) (old : List X) → true ≡ b → new ≡ (if b then more else old) → new ≡ more
pushed {new = new} {more = more} b old is e = subst (λ b. new ≡ (if b then more else old)) (sym is) e

pub if_granted : {T E : Type 0} {P Q : T → Type 0} (r : Result T E) (o : Option T) → o ≡ result_ok r → ((x : T) → P x → Q x) → IfOk r P → IfSome o Q
if_granted {Q = Q} (Ok y) o is weaker p = subst (λ o. IfSome o Q) (sym is) (weaker y p)
if_granted {Q = Q} (Err e) o is weaker p = subst (λ o. IfSome o Q) (sym is) tt

-- the same of what is found in tuples
pub quick_granted : {X E : Type 0} (view : X → Val) (f : Tuple → Outcome Val) (ts : List Tuple) (r : Result (Vec X) E) (found : Option (Vec X)) → found ≡ result_ok r
    → IfOk r (λ xs. AreInRows view f ts xs.items) → AreQuick view f ts found
quick_granted view f ts (Ok xs) found is p = subst (AreQuick view f ts) (sym is) p
quick_granted view f ts (Err e) found is p = subst (AreQuick view f ts) (sym is) tt
