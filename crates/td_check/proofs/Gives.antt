-- What is answered of parts, where a call says what it gives of whatever they stand for.
use Rattle.std.proofs.Common.{◌≡◌, Result, Ok, Err, refl, subst}
use Rattle.std.specs.Prelude.{OnOk}
use Rattle.td_check.proofs.BothAnswers.{both_given, both_refused}
use Rattle.td_tree.specs.code.Gatherings.{both_answers}
use Rattle.td_tree.specs.declared.cause.Cause.TheVariants as causes
use Rattle.td_tree.specs.declared.fault.Fault.{Fault}
use Rattle.td_tree.specs.declared.fault.Fault.TheVariants as faults
use Rattle.td_tree.specs.model.Outcomes.{Answers, Outcome, Valued, Refused, Only, with_both, with_value}

-- whatever the parts stand for, the answer is what follows of it
abbrev pub Gives : {X Y A B : Type 0} → (X → A) → Result X Fault → (A → Outcome B) → (Y → B) → Result Y Fault → Type 0
Gives {A = A} view parts f next answer = (o : Outcome A) → Answers view parts o → Answers next answer (with_value o f)

-- there were parts where there is an answer
pub parts_given : {X Y A B : Type 0} (view : X → A) (r : Result X Fault) (f : A → Outcome B) (next : Y → B) (y : Y)
    → Gives view r f next (Ok y) → (x : X) × (r ≡ Ok x)
parts_given view (Ok x) f next y g = (x, refl)
parts_given view (Err (faults.Refused c)) f next y g = absurd (let h : Refused (Only c) ≡ Valued (next y) = g (Refused (Only c)) refl in cc)
parts_given view (Err faults.Memory) f next y g = absurd (let h : Refused (Only causes.Rank) ≡ Valued (next y) = g (Refused (Only causes.Rank)) tt in cc)

-- so what holds where there are parts holds where there is an answer
pub held_of_parts : {X Y A B : Type 0} (P : Type 0) (view : X → A) (r : Result X Fault) (f : A → Outcome B) (next : Y → B) (z : Result Y Fault)
    → Gives view r f next z → OnOk r P → OnOk z P
held_of_parts P view r f next (Ok y) g h =
    let given = parts_given view r f next y g in
    subst (λ s. OnOk s P) given.1 h
held_of_parts P view r f next (Err e) g h = tt

-- ---- two parts

abbrev pub with_pair : {A B : Type 0} → A → B → Outcome (A × B)
with_pair x y = Valued (x, y)

-- what follows of both follows of their pair
pub paired_first : {A B C : Type 0} (o : Outcome A) (p : Outcome B) (f : A → B → Outcome C)
    → with_value (with_both o p with_pair) (λ b. f b.0 b.1) ≡ with_both o p f
paired_first (Valued x) (Valued y) f = refl
paired_first (Valued x) (Refused ds) f = refl
paired_first (Refused cs) (Valued y) f = refl
paired_first (Refused cs) (Refused ds) f = refl

-- the pair is what both answers give
pub answers_paired : {X Y A B : Type 0} (v : X → A) (w : Y → B) (r : Result X Fault) (s : Result Y Fault) (o : Outcome A) (p : Outcome B)
    → Answers v r o → Answers w s p
    → Answers {X = X × Y} {A = A × B} (λ b. (v b.0, w b.1)) (both_answers r s) (with_both o p with_pair)
answers_paired {X = X} {Y = Y} {A = A} {B = B} v w r s o p h i = by_both (both_answers r s) refl
  where
    by_both : (b : Result (X × Y) Fault) → both_answers r s ≡ b
        → Answers {X = X × Y} {A = A × B} (λ b. (v b.0, w b.1)) b (with_both o p with_pair)
    by_both (Ok b) is = both_given v w with_pair r s o p b is h i
    by_both (Err e) is = both_refused {Z = X × Y} v w (λ b. (v b.0, w b.1)) with_pair r s o p e is h i

-- both are there where the pair is
pub both_there : {X Y : Type 0} (P Q : Type 0) (r : Result X Fault) (s : Result Y Fault) → OnOk r P → OnOk s Q → OnOk (both_answers r s) (P × Q)
both_there P Q (Ok x) (Ok y) p q = (p, q)
both_there P Q (Ok x) (Err e) p q = tt
both_there P Q (Err d) (Ok y) p q = tt
both_there P Q (Err d) (Err e) p q = tt

-- ---- one part

pub answered_then : {X Y A B : Type 0} (view : X → A) (x : X) (o : Outcome A) (f : A → Outcome B) (next : Y → B) (z : Result Y Fault)
    → Answers view (Ok x) o → Answers next z (f (view x)) → Answers next z (with_value o f)
answered_then view x o f next z h a = rw h a

pub weaker : {X E : Type 0} (P Q : Type 0) (r : Result X E) → (P → Q) → OnOk r P → OnOk r Q
weaker P Q (Ok x) f p = f p
weaker P Q (Err e) f p = tt
