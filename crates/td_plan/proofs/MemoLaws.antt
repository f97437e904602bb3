-- What is kept, place by place.
use Rattle.std.proofs.Common.{◌≡◌, ◌<◌, ◌≤◌, ◌+◌, ◌⊎◌, inl, inr, ℕ, zero, suc, List, [], ◌∷◌, ◌++◌, Option, Some, None, sym, refl, arith, length, slice_set, subst}
use Rattle.std.specs.List.{slice_get}
use Rattle.std.proofs.lemmas.Bool.{cases_lt}
use Rattle.td_tree.specs.model.Outcomes.{Answers}
use Rattle.td_plan.specs.declared.running.memo.Kept.{Kept}
use Rattle.td_plan.specs.declared.running.memo.Memo.{Memo}
use Rattle.td_plan.specs.code.Memos.{AgreeBelow, AreKept, AreWithin, IsKept, IsMemo, IsMemoBelow, IsReady, IsReadyBelow, Keeps, KeepsBelow, Parts, Reaches}
use Rattle.td_plan.specs.code.Plans.{PlanTree, Slots, with_slot}
use Rattle.td_plan.proofs.SlotLaws.{agree_back, agree_below}
use Rattle.td_value.specs.model.Values.{Val}
use Rattle.td_eval.specs.model.Worlds.{World}

-- what holds of nothing and of each place holds once more is pushed, or once something is set that it holds of
pub each_pushed : {X : Type 0} (P : ℕ → Option X → Type 0) (xs : List X) (x : X) → ((j : ℕ) → P j None) → ((j : ℕ) → P j (Some x)) → ((j : ℕ) → P j (slice_get xs j)) → (j : ℕ) → P j (slice_get (xs ++ (x ∷ [])) j)
each_pushed P [] x n h all zero = h zero
each_pushed P [] x n h all (suc j) = n (suc j)
each_pushed P (y ∷ xs) x n h all zero = all zero
each_pushed P (y ∷ xs) x n h all (suc j) = each_pushed (λ j o. P (suc j) o) xs x (λ j. n (suc j)) (λ j. h (suc j)) (λ j. all (suc j)) j

pub each_set : {X : Type 0} (P : ℕ → Option X → Type 0) (xs : List X) (k : ℕ) (x : X) → k < length xs → P k (Some x) → ((j : ℕ) → (j ≡ k → ⊥) → P j (slice_get xs j)) → (j : ℕ) → P j (slice_get (slice_set xs k x) j)
each_set P [] k x l h all j = absurd (omega arith)
each_set P (y ∷ xs) zero x l h all zero = h
each_set P (y ∷ xs) zero x l h all (suc j) = all (suc j) (λ e. omega (arith, e))
each_set P (y ∷ xs) (suc k) x l h all zero = all zero (λ e. omega (arith, e))
each_set P (y ∷ xs) (suc k) x l h all (suc j) = each_set (λ j o. P (suc j) o) xs k x (omega arith) h (λ j d. all (suc j) (λ e. d (let q : j ≡ k = omega (arith, e) in q))) j

-- what is left where further reaches are forgotten is so in other slots too
pub kept_elsewhere : (ps : Parts) (w : World) (s t : Slots) (d k : ℕ) (kept : List (Option Kept)) → d ≤ k → AgreeBelow k s t → AreWithin d kept → AreKept ps w s kept → AreKept ps w t kept
kept_elsewhere ps w s t d k kept l agree within are = λ j. by_kept (ps j) (slice_get kept j) (within j) (are j)
  where
    by_kept : (q : PlanTree) (o : Option (Option Kept)) → Reaches d o → IsKept w s q o → IsKept w t q o
    by_kept q (Some (Some f)) r h = (subst (Answers (λ v. v) f.answer) (h.1 w s t (λ j i. agree j (omega (arith, r, i, l)))) h.0, h.1)
    by_kept q (Some None) r h = tt
    by_kept q None r h = tt

pub within_more : (d e : ℕ) (kept : List (Option Kept)) → d ≤ e → AreWithin d kept → AreWithin e kept
within_more d e kept l within = λ j. by_kept (slice_get kept j) (within j)
  where
    by_kept : (o : Option (Option Kept)) → Reaches d o → Reaches e o
    by_kept (Some (Some f)) r = omega (arith, r, l)
    by_kept (Some None) r = tt
    by_kept None r = tt

pub set_none_kept : (ps : Parts) (w : World) (s : Slots) (kept : List (Option Kept)) (k : ℕ) → k < length kept → AreKept ps w s kept → AreKept ps w s (slice_set kept k None)
set_none_kept ps w s kept k l are = each_set (λ j o. IsKept w s (ps j) o) kept k None l tt (λ j d. are j)

pub set_none_within : (d i : ℕ) (kept : List (Option Kept)) → i < length kept → ((j : ℕ) → j < i → Reaches d (slice_get kept j)) → (j : ℕ) → j < i + 1 → Reaches d (slice_get (slice_set kept i None) j)
set_none_within d i kept l within = each_set (λ j o. j < i + 1 → Reaches d o) kept i None l (λ _. tt) (λ j d h. within j (omega (arith, d, h)))

past_end : {X : Type 0} (xs : List X) (j : ℕ) → length xs ≤ j → slice_get xs j ≡ None
past_end [] j l = refl
past_end (x ∷ xs) zero l = absurd (omega arith)
past_end (x ∷ xs) (suc j) l = past_end xs j (omega arith)

-- what holds below the length holds of each place
pub all_within : (d i : ℕ) (kept : List (Option Kept)) → length kept ≤ i → ((j : ℕ) → j < i → Reaches d (slice_get kept j)) → AreWithin d kept
all_within d i kept l within = λ j. by_order j (cases_lt j i)
  where
    by_order : (j : ℕ) → (j < i) ⊎ (i ≤ j) → Reaches d (slice_get kept j)
    by_order j (inl h) = within j h
    by_order j (inr h) = subst (Reaches d) (sym (past_end kept j (omega arith))) tt

-- what is done in a tuple of a loop, whose slot is forgotten then
pub kept_inside : (w : World) (k : ℕ) (row : List Val) (s inner : Slots) (old mid new : Memo) (sound : Parts → Type 0) (claim : Slots → Type 0)
    → inner ≡ with_slot k row s → Keeps w inner old mid sound (claim inner)
    → ((ps : Parts) (u : World) (x y : Slots) → AgreeBelow k x y → IsMemo ps u x mid → IsMemoBelow ps u k y new)
    → KeepsBelow w k s old new sound (claim (with_slot k row s))
kept_inside w k row s inner old mid new sound claim is keeps forgets = λ ps h m.
    let a = keeps ps h (subst (λ x. IsMemo ps w x old) (sym is) (m (with_slot k row s) (agree_below k row s))) in
    (subst claim is a.0, forgets ps w inner s (subst (λ x. AgreeBelow k x s) (sym is) (agree_back k row s)) a.1)

pub ready_inside : (w : World) (k : ℕ) (row : List Val) (s inner : Slots) (m : Memo) (are : Parts → Type 0) → inner ≡ with_slot k row s → IsReadyBelow w k s m are → IsReady w inner m are
ready_inside w k row s inner m are is r = record {
  parts = r.parts;
  sound = r.sound;
  memo = subst (λ x. IsMemo r.parts w x m) (sym is) (r.memo (with_slot k row s) (agree_below k row s));
}

-- so it is after what keeps the memo right
pub ready_still : {w : World} {k : ℕ} {s : Slots} {old new : Memo} {are : Parts → Type 0} {claim : Type 0} → KeepsBelow w k s old new are claim → IsReadyBelow w k s old are → IsReadyBelow w k s new are
ready_still keeps r = record { parts = r.parts; sound = r.sound; memo = (keeps r.parts r.sound r.memo).1 }

-- what a loop does whose slot and tuples further out are these
pub kept_outside : (w : World) (k l : ℕ) (s t : Slots) (old new : Memo) (sound : Parts → Type 0) (claim : ℕ → Slots → Type 0)
    → l ≡ k → t ≡ s → KeepsBelow w l t old new sound (claim l t) → (ps : Parts) → sound ps → IsMemoBelow ps w k s old → claim k s × IsMemo ps w s new
kept_outside w k l s t old new sound claim slot outer keeps ps h m =
    let here = subst (λ (at : ℕ × Slots). KeepsBelow w at.0 at.1 old new sound (claim at.0 at.1)) (λ i. (slot i, outer i)) keeps in
    let a = here ps h m in
    (a.0, a.1 s (λ j l. refl))

pub ready_below : {w : World} {k l : ℕ} {s t : Slots} {m : Memo} {are : Parts → Type 0} → l ≡ k → t ≡ s → IsReadyBelow w k s m are → IsReadyBelow w l t m are
ready_below {w} {m = m} {are = are} slot outer r = subst (λ (at : ℕ × Slots). IsReadyBelow w at.0 at.1 m are) (λ i. (sym slot i, sym outer i)) r
