-- The tuples in slots.
use Rattle.std.proofs.Common.{◌≡◌, ◌∙◌, ◌<◌, ◌≤◌, ℕ, zero, suc, List, [], ◌∷◌, ◌++◌, Option, Some, None, Bool, true, false, ap, sym, refl, arith, length, map, option_map, slice_set, take, if◌then◌else◌}
use Rattle.std.specs.Borrow.{Bor}
use Rattle.std.specs.Prelude.{nat_eq, nat_lt}
use Rattle.std.specs.List.{slice_get}
use Rattle.std.proofs.lemmas.Bool.{eq-eqb, eqb-false, eqb-true, lt-ltb, ltb-false, ltb-true}
use Rattle.td_plan.specs.code.Hands.{cells_at, cells_lent, cells_of, slots_in, slots_lent}
use Rattle.td_plan.specs.code.Memos.{AgreeBelow}
use Rattle.td_plan.specs.code.Plans.{Slots, slots_before, with_slot}
use Rattle.td_value.specs.model.Values.{Tuple, Val}

unequal : (a b : ℕ) → (a ≡ b → ⊥) → nat_eq a b ≡ false
unequal a b h = by_test (nat_eq a b) refl
  where
    by_test : (t : Bool) → nat_eq a b ≡ t → nat_eq a b ≡ false
    by_test true e = absurd (h (eqb-true a b e))
    by_test false e = e

cells_or : Option (List Val) → List Val
cells_or (Some c) = c
cells_or None = []

cells_at_map : (rows : List (Option Tuple)) (j : ℕ) → cells_at (slice_get rows j) ≡ cells_or (slice_get (map cells_of rows) j)
unfolding cells_or
cells_at_map [] j = refl
cells_at_map (row ∷ rows) zero = refl
cells_at_map (row ∷ rows) (suc j) = cells_at_map rows j

-- rows of the same values are the same slots
pub same_slots : (xs ys : List (Option Tuple)) → map cells_of xs ≡ map cells_of ys → slots_in xs ≡ slots_in ys
same_slots xs ys e = λ i j. (cells_at_map xs j ∙ ap (λ cs. cells_or (slice_get cs j)) e ∙ sym (cells_at_map ys j)) i

not_zero : (j : ℕ) → nat_eq (suc j) 0 ≡ false
not_zero j = unequal (suc j) 0 (λ e. omega (arith, e))

no_zero : (j : ℕ) → nat_eq 0 (suc j) ≡ false
no_zero j = unequal 0 (suc j) (λ e. omega (arith, e))

same_suc : (j k : ℕ) → nat_eq (suc j) (suc k) ≡ nat_eq j k
same_suc j k = by_test (nat_eq j k) refl
  where
    by_test : (t : Bool) → nat_eq j k ≡ t → nat_eq (suc j) (suc k) ≡ nat_eq j k
    by_test true e = eq-eqb (suc j) (suc k) (ap suc (eqb-true j k e)) ∙ sym e
    by_test false e = unequal (suc j) (suc k) (λ h. eqb-false j k e (let q : j ≡ k = omega (arith, h) in q)) ∙ sym e

at_end : (rows : List (Option Tuple)) (row : Option Tuple) (j : ℕ) → cells_at (slice_get (rows ++ (row ∷ [])) j) ≡ (if nat_eq j (length rows) then cells_of row else cells_at (slice_get rows j))
at_end [] row zero = refl
at_end [] row (suc j) = sym (ap (λ b. if b then cells_of row else []) (not_zero j))
at_end (x ∷ rows) row zero = sym (ap (λ b. if b then cells_of row else cells_of x) (no_zero (length rows)))
at_end (x ∷ rows) row (suc j) = at_end rows row j ∙ ap (λ b. if b then cells_of row else cells_at (slice_get rows j)) (sym (same_suc j (length rows)))

-- one more row is that of the next slot
pub slots_more : (rows : List (Option Tuple)) (row : Option Tuple) (k : ℕ) → length rows ≡ k → slots_in (rows ++ (row ∷ [])) ≡ with_slot k (cells_of row) (slots_in rows)
slots_more rows row k e = (λ i j. at_end rows row j i) ∙ ap (λ n. with_slot n (cells_of row) (slots_in rows)) e

nothing_at : (rows : List (Option Tuple)) (j : ℕ) → cells_at (slice_get (rows ++ (None ∷ [])) j) ≡ cells_at (slice_get rows j)
nothing_at [] zero = refl
nothing_at [] (suc j) = refl
nothing_at (x ∷ rows) zero = refl
nothing_at (x ∷ rows) (suc j) = nothing_at rows j

pub slots_nothing : (rows : List (Option Tuple)) → slots_in (rows ++ (None ∷ [])) ≡ slots_in rows
slots_nothing rows = λ i j. nothing_at rows j i

set_at : (rows : List (Option Tuple)) (k : ℕ) (row : Option Tuple) → k < length rows → (j : ℕ) → cells_at (slice_get (slice_set rows k row) j) ≡ (if nat_eq j k then cells_of row else cells_at (slice_get rows j))
set_at [] k row l j = absurd (omega arith)
set_at (x ∷ rows) zero row l zero = refl
set_at (x ∷ rows) zero row l (suc j) = sym (ap (λ b. if b then cells_of row else cells_at (slice_get rows j)) (not_zero j))
set_at (x ∷ rows) (suc k) row l zero = sym (ap (λ b. if b then cells_of row else cells_of x) (no_zero k))
set_at (x ∷ rows) (suc k) row l (suc j) = set_at rows k row (omega arith) j ∙ ap (λ b. if b then cells_of row else cells_at (slice_get rows j)) (sym (same_suc j k))

pub slots_set : (rows : List (Option Tuple)) (k : ℕ) (row : Option Tuple) → k < length rows → slots_in (slice_set rows k row) ≡ with_slot k (cells_of row) (slots_in rows)
slots_set rows k row l = λ i j. set_at rows k row l j i

-- ---- one slot

pub slot_here : (j k : ℕ) (row : List Val) (slots : Slots) → j ≡ k → with_slot k row slots j ≡ row
slot_here j k row slots e = ap (λ b. if b then row else slots j) (eq-eqb j k e)

pub slot_other : (j k : ℕ) (row : List Val) (slots : Slots) → (j ≡ k → ⊥) → with_slot k row slots j ≡ slots j
slot_other j k row slots h = ap (λ b. if b then row else slots j) (unequal j k h)

-- what is put into a slot is not seen below it
pub agree_below : (k : ℕ) (row : List Val) (s : Slots) → AgreeBelow k s (with_slot k row s)
agree_below k row s = λ j l. sym (slot_other j k row s (λ e. omega (arith, e, l)))

pub agree_back : (k : ℕ) (row : List Val) (s : Slots) → AgreeBelow k (with_slot k row s) s
agree_back k row s = λ j l. slot_other j k row s (λ e. omega (arith, e, l))

past_slots : (rows : List (Option Tuple)) (j : ℕ) → j ≡ length rows → [] ≡ cells_at (slice_get rows j)
past_slots [] j e = refl
past_slots (row ∷ rows) zero e = absurd (omega (arith, e))
past_slots (row ∷ rows) (suc j) e = past_slots rows j (omega (arith, e))

-- nothing stands in the slot after the last
pub slots_free : (rows : List (Option Tuple)) → with_slot (length rows) [] (slots_in rows) ≡ slots_in rows
slots_free rows = λ i j. by_test j (nat_eq j (length rows)) refl i
  where
    by_test : (j : ℕ) (b : Bool) → nat_eq j (length rows) ≡ b → (if nat_eq j (length rows) then [] else cells_at (slice_get rows j)) ≡ cells_at (slice_get rows j)
    by_test j true e = rw e (past_slots rows j (eqb-true j (length rows) e))
    by_test j false e = rw e refl

-- ---- the slots before one

taken_at : (k : ℕ) (rows : List (Option Tuple)) (j : ℕ)
    → (j < k → cells_at (slice_get (take k rows) j) ≡ cells_at (slice_get rows j)) × (k ≤ j → cells_at (slice_get (take k rows) j) ≡ [])
taken_at zero rows j = (λ l. absurd (omega (arith, l)), λ l. refl)
taken_at (suc k) [] j = (λ l. refl, λ l. refl)
taken_at (suc k) (x ∷ rows) zero = (λ l. refl, λ l. absurd (omega (arith, l)))
taken_at (suc k) (x ∷ rows) (suc j) =
    let h = taken_at k rows j in
    (λ l. h.0 (omega (arith, l)), λ l. h.1 (omega (arith, l)))

-- so many of the first rows
pub slots_taken : (k : ℕ) (rows : List (Option Tuple)) → slots_in (take k rows) ≡ slots_before k (slots_in rows)
slots_taken k rows = λ i j. by_test j (nat_lt j k) refl i
  where
    by_test : (j : ℕ) (b : Bool) → nat_lt j k ≡ b → cells_at (slice_get (take k rows) j) ≡ (if nat_lt j k then cells_at (slice_get rows j) else [])
    by_test j true e = rw e ((taken_at k rows j).0 (ltb-true j k e))
    by_test j false e = rw e ((taken_at k rows j).1 (ltb-false j k e))

pub agree_before : (k : ℕ) (s : Slots) → AgreeBelow k s (slots_before k s)
agree_before k s = λ j l. sym (ap (λ b. if b then s j else []) (lt-ltb j k l))

-- ---- rows that are lent

tuple_cells : (rows : List (Option Tuple)) (ts : List (Bor Tuple)) → rows ≡ map (λ t. Some t.now) ts → (j : ℕ) → cells_at (slice_get rows j) ≡ cells_lent (slice_get ts j)
tuple_cells rows [] e j = ap (λ rs. cells_at (slice_get rs j)) e
tuple_cells rows (t ∷ ts) e zero = ap (λ rs. cells_at (slice_get rs zero)) e
tuple_cells rows (t ∷ ts) e (suc j) = ap (λ rs. cells_at (slice_get rs (suc j))) e ∙ tuple_cells (map (λ t. Some t.now) ts) ts refl j

pub tuple_slots : (rows : List (Option Tuple)) (ts : List (Bor Tuple)) → rows ≡ map (λ t. Some t.now) ts → slots_in rows ≡ slots_lent ts
tuple_slots rows ts e = λ i j. tuple_cells rows ts e j i

-- a lent tuple, if there is one, has the values of the one that it lends
pub cells_same : (copy : Option Tuple) (lent : Option (Bor Tuple)) → copy ≡ option_map (λ t. t.now) lent → cells_of copy ≡ cells_lent lent
cells_same copy (Some t) e = ap cells_of e
cells_same copy None e = ap cells_of e
