-- The types of expressions in a list, and the names that they mention, one expression after another.
use Rattle.std.proofs.Common.{◌≡◌, ◌∙◌, ◌∷◌, ◌++◌, ◌+◌, ◌<◌, ◌≤◌, ℕ, List, [], Option, Some, None, Result, Ok, Err, ap, get_or, length, map, refl, subst, sym, take}
use Rattle.std.proofs.lemmas.List.{append-nil, append_assoc, take_all, take_more}
use Rattle.std.specs.Prelude.{OnOk}
use Rattle.td_check.specs.code.CheckViews.{Names, with_names}
use Rattle.td_check.proofs.CheckedNames.{names_after, no_names}
use Rattle.td_tree.specs.declared.cause.Cause.{Cause}
use Rattle.td_tree.specs.declared.fault.Fault.{Fault}
use Rattle.td_tree.specs.declared.fault.Fault.TheVariants as faults
use Rattle.td_tree.specs.code.Gatherings.{IsCollected, IsGathered, answer_of}
use Rattle.td_tree.specs.model.Outcomes.{Answers, Outcome, gathered, lesser}
use Rattle.td_tree.proofs.code_lemmas.Gatherings.{answers_gathered, collected_next}

-- what the elements mention, one after another
abbrev pub of_each : {X : Type 0} → (X → List (List ℕ)) → List X → List (List ℕ)
of_each f [] = []
of_each f (x ∷ xs) = f x ++ of_each f xs

pub of_each_last : {X : Type 0} (f : X → List (List ℕ)) (xs : List X) (x : X) → of_each f (xs ++ (x ∷ [])) ≡ of_each f xs ++ f x
of_each_last f [] x = append-nil (f x)
of_each_last f (y ∷ xs) x = ap (λ ns. f y ++ ns) (of_each_last f xs x) ∙ sym (append_assoc (f y) (of_each f xs) (f x))

-- what is gathered of these elements, and, where none was refused, the names that they mention
abbrev pub AreChecked : {X A : Type 0} → (X → Outcome A) → (X → List (List ℕ)) → (X → List (List ℕ)) → Option Cause → List A → Names → Names → List X → Type 0
AreChecked outcome relvars types least values before now xs =
    IsGathered least values (map outcome xs) × (least ≡ None → now ≡ with_names before (of_each relvars xs) (of_each types xs))

-- of no element
pub none_checked : {X A : Type 0} (outcome : X → Outcome A) (relvars types : X → List (List ℕ)) (n : Names)
    → AreChecked outcome relvars types None [] n n []
none_checked outcome relvars types n = (refl, λ _. no_names n)

-- where no cause is left, there was none before, and the answer is none
no_cause : {Y : Type 0} {least new : Option Cause} {ys more : List Y} (r : Result Y Fault) → IsCollected r least ys new more → new ≡ None
    → (least ≡ None) × ((P : Type 0) → OnOk r P → P)
no_cause {least = None} (Ok y) e h = (refl, λ P p. p)
no_cause {least = Some c} (Ok y) e h = absurd (let left : Some c ≡ None = sym e.cause ∙ h in cc)
no_cause {least = None} (Err (faults.Refused d)) e h = absurd (let left : Some d ≡ None = sym e.cause ∙ h in cc)
no_cause {least = Some c} (Err (faults.Refused d)) e h = absurd (let left : Some (lesser c d) ≡ None = sym e.cause ∙ h in cc)
no_cause (Err faults.Memory) e h = absurd e.values

-- one more element
pub checked_next : {X Y A : Type 0} (view : Y → A) (outcome : X → Outcome A) (relvars types : X → List (List ℕ)) (xs : List X) (i : ℕ) {x : X} → i < length xs → x ≡ get_or xs i x
    → (before now later : Names) {least new : Option Cause} {ys more : List Y} (r : Result Y Fault)
    → AreChecked outcome relvars types least (map view ys) before now (take i xs) → Answers view r (outcome x)
    → OnOk r (later ≡ with_names now (relvars x) (types x)) → IsCollected r least ys new more
    → AreChecked outcome relvars types new (map view more) before later (take (i + 1) xs)
checked_next {X = X} view outcome relvars types xs i {x = x} inside is before now later {new = new} r so_far answers names e =
    (collected_next view outcome xs i inside is so_far.0 answers e, names_more)
  where
    names_more : new ≡ None → later ≡ with_names before (of_each relvars (take (i + 1) xs)) (of_each types (take (i + 1) xs))
    names_more none =
        let free = no_cause r e none in
        let mentioned = λ (f : X → List (List ℕ)). sym (of_each_last f (take i xs) x) ∙ ap (of_each f) (ap (λ z. take i xs ++ z ∷ []) is ∙ sym (take_more xs i x inside)) in
        names_after before now later (of_each relvars (take i xs)) (of_each types (take i xs)) (relvars x) (types x) (so_far.1 free.0) (free.1 _ names)
        ∙ (λ j. with_names before (mentioned relvars j) (mentioned types j))

-- the elements so far and the next are those of the next step
pub step_taken : {X : Type 0} (P : List X → Type 0) (xs : List X) (i : ℕ) (x : X) → i < length xs → x ≡ get_or xs i x
    → P (take i xs ++ (x ∷ [])) → P (take (i + 1) xs)
step_taken P xs i x inside is p =
    subst P (ap (λ z. take i xs ++ (z ∷ [])) is ∙ sym (take_more xs i x inside)) p

-- ---- at the end

module _ {X A V : Type 0} (view : V → List A) (outcome : X → Outcome A) (relvars types : X → List (List ℕ)) (xs : List X) (i : ℕ) (past : length xs ≤ i)
    (least : Option Cause) (v : V) (r : Result V Fault) (is : r ≡ answer_of least v) (before now : Names)
    (so_far : AreChecked outcome relvars types least (view v) before now (take i xs)) where
  pub all_answered : (o : Outcome (List A)) → gathered (map outcome xs) ≡ o → Answers view r o
  all_answered o same =
      rw (is, ← same)
      (answers_gathered view least v (map outcome xs) (subst (λ ys. IsGathered least (view v) (map outcome ys)) (take_all i xs past) so_far.0))

  pub all_named : (rs ts : List (List ℕ)) → of_each relvars xs ≡ rs → of_each types xs ≡ ts → OnOk r (now ≡ with_names before rs ts)
  all_named rs ts p q = rw is (by_least least refl)
    where
      by_least : (l : Option Cause) → least ≡ l → OnOk (answer_of l v) (now ≡ with_names before rs ts)
      by_least None e =
          so_far.1 e ∙ ap (λ ys. with_names before (of_each relvars ys) (of_each types ys)) (take_all i xs past)
          ∙ (λ j. with_names before (p j) (q j))
      by_least (Some c) e = tt
