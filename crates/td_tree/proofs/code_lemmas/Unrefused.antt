-- A call whose outcome has a value is not refused.
use Rattle.std.proofs.Common.{◌≡◌, ◌∙◌, Bool, true, Result, Ok, Err, Some, None, ap, refl, sym}
use Rattle.td_tree.specs.declared.cause.Cause.{Cause}
use Rattle.td_tree.specs.declared.fault.Fault.{Fault}
use Rattle.td_tree.specs.declared.fault.Fault.TheVariants as faults
use Rattle.td_tree.specs.model.Outcomes.{Answers, IsUnrefused, Outcome, Valued, named_cause, value_if}

module _ {X A : Type 0} (view : X → A) where
  pub unrefused_valued : (r : Result X Fault) (o : Outcome A) (a : A) → o ≡ Valued a → Answers view r o → IsUnrefused r
  unrefused_valued (Ok x) o a e h = tt
  unrefused_valued (Err (faults.Refused cause)) o a e h = absurd (let f : None ≡ Some cause = ap named_cause (sym e) ∙ h in cc)
  unrefused_valued (Err faults.Memory) o a e h = tt

  pub unrefused_if : (r : Result X Fault) (test : Bool) (a : A) (cause : Cause) → test ≡ true → Answers view r (value_if test a cause) → IsUnrefused r
  unrefused_if r test a cause e h = unrefused_valued r (value_if test a cause) a (rw e refl) h
