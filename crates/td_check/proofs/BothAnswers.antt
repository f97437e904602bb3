-- What follows of two answers, by what they give together.
use Rattle.std.proofs.Common.{◌≡◌, Some, Result, Ok, Err, refl, subst}
use Rattle.td_tree.specs.code.Gatherings.{both_answers, lesser_fault}
use Rattle.td_tree.specs.declared.cause.Cause.{Cause}
use Rattle.td_tree.specs.declared.fault.Fault.{Fault}
use Rattle.td_tree.specs.declared.fault.Fault.TheVariants as faults
use Rattle.td_tree.specs.model.Outcomes.{Answers, Outcome, Valued, Refused, lesser, least, named_cause, with_both}

module _ {X Y Z A B C : Type 0} (first : X → A) (second : Y → B) (next : Z → C) (k : A → B → Outcome C) where
  second_refused : (x : A) (p : Outcome B) (e : Fault) → Answers second (Err e) p → Answers next (Err e) (with_both (Valued x) p k)
  second_refused x (Valued y) (faults.Refused c) h = absurd (cc)
  second_refused x (Refused ds) (faults.Refused c) h = h
  second_refused x p faults.Memory h = tt

  first_refused : (o : Outcome A) (y : B) (e : Fault) → Answers first (Err e) o → Answers next (Err e) (with_both o (Valued y) k)
  first_refused (Valued x) y (faults.Refused c) h = absurd (cc)
  first_refused (Refused cs) y (faults.Refused c) h = h
  first_refused o y faults.Memory h = tt

  -- the lesser of the causes of both
  lesser_named : (o : Outcome A) (p : Outcome B) (c d : Cause) → named_cause o ≡ Some c → named_cause p ≡ Some d
      → named_cause (with_both o p k) ≡ Some (lesser c d)
  lesser_named (Valued x) p c d h i = absurd (cc)
  lesser_named (Refused cs) (Valued y) c d h i = absurd (cc)
  lesser_named (Refused cs) (Refused ds) c d h i =
      let one : least cs ≡ c = cc in
      let other : least ds ≡ d = cc in
      rw (one, other) refl

  neither : (o : Outcome A) (p : Outcome B) (d e : Fault) → Answers first (Err d) o → Answers second (Err e) p
      → Answers next (Err (lesser_fault d e)) (with_both o p k)
  neither o p (faults.Refused c) (faults.Refused d) h i = lesser_named o p c d h i
  neither o p (faults.Refused c) faults.Memory h i = tt
  neither o p faults.Memory (faults.Refused d) h i = tt
  neither o p faults.Memory faults.Memory h i = tt

  -- where there are not both values, what follows is refused alike
  pub both_refused : (r : Result X Fault) (s : Result Y Fault) (o : Outcome A) (p : Outcome B) (e : Fault) → both_answers r s ≡ Err e
      → Answers first r o → Answers second s p → Answers next (Err e) (with_both o p k)
  both_refused (Ok x) (Ok y) o p e is h i = absurd (cc)
  both_refused (Ok x) (Err d) o p e is h i =
      let same : d ≡ e = cc in
      subst (λ f. Answers next (Err f) (with_both o p k)) same (rw h (second_refused (first x) p d i))
  both_refused (Err d) (Ok y) o p e is h i =
      let same : d ≡ e = cc in
      subst (λ f. Answers next (Err f) (with_both o p k)) same (rw i (first_refused o (second y) d h))
  both_refused (Err d) (Err d2) o p e is h i =
      let same : lesser_fault d d2 ≡ e = cc in
      subst (λ f. Answers next (Err f) (with_both o p k)) same (neither o p d d2 h i)

module _ {X Y A B C : Type 0} (first : X → A) (second : Y → B) (k : A → B → Outcome C) where
  -- where there are, it follows of both
  pub both_given : (r : Result X Fault) (s : Result Y Fault) (o : Outcome A) (p : Outcome B) (both : X × Y) → both_answers r s ≡ Ok both
      → Answers first r o → Answers second s p → with_both o p k ≡ k (first both.0) (second both.1)
  both_given (Ok x) (Ok y) o p both is h i =
      let same : both ≡ (x, y) = cc in
      rw (h, i, same) refl
  both_given (Ok x) (Err d) o p both is h i = absurd (cc)
  both_given (Err d) (Ok y) o p both is h i = absurd (cc)
  both_given (Err d) (Err e) o p both is h i = absurd (cc)
