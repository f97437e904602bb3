-- Entries that are added in turn to what names find: a name finds what the first entry of the name made, where the entries
-- before it alone had been added.
use Rattle.std.proofs.Common.{◌≡◌, ◌∙◌, ◌∷◌, ◌+◌, ◌<◌, ◌≤◌, ℕ, zero, suc, Bool, true, false, List, [], Option, Some, None, ap, arith, fold, length, refl, subst, sym, take}
use Rattle.std.specs.Prelude.{if◌then◌else◌, not, nat_lt}
use Rattle.std.specs.Cmp.Lexicographic.{same_text}
use Rattle.std.specs.List.{find, position, prefix_len, slice_get}
use Rattle.std.proofs.lemmas.Bool.Decides.{nat_tests}
use Rattle.std.specs.Option.{option_or}
use Rattle.td_types.specs.model.Types.{same_name}

module _ {S X Y : Type 0} (look : S → List ℕ → Option Y) (add : S → X → S) (name_of : X → List ℕ) (made : S → X → Y)
    (adds : (s : S) (x : X) (n : List ℕ) → look (add s x) n ≡ option_or (look s n) (if same_name (name_of x) n then Some (made s x) else None)) where
  -- ---- one entry more

  step_there : (s : S) (x : X) (n : List ℕ) (y : Y) → look s n ≡ Some y → look (add s x) n ≡ Some y
  step_there s x n y is = adds s x n ∙ ap (λ o. option_or o (if same_name (name_of x) n then Some (made s x) else None)) is

  step_new : (s : S) (x : X) (n : List ℕ) → look s n ≡ None → same_name (name_of x) n ≡ true → look (add s x) n ≡ Some (made s x)
  step_new s x n none same =
      adds s x n ∙ ap (λ o. option_or o (if same_name (name_of x) n then Some (made s x) else None)) none ∙ ap (λ b. if b then Some (made s x) else None) same

  step_none : (s : S) (x : X) (n : List ℕ) → look s n ≡ None → same_name (name_of x) n ≡ false → look (add s x) n ≡ None
  step_none s x n none same =
      adds s x n ∙ ap (λ o. option_or o (if same_name (name_of x) n then Some (made s x) else None)) none ∙ ap (λ b. if b then Some (made s x) else None) same

  -- ---- more entries

  -- what is there stays
  pub stays : (xs : List X) (s : S) (n : List ℕ) (y : Y) → look s n ≡ Some y → look (fold add s xs) n ≡ Some y
  stays [] s n y is = is
  stays (x ∷ xs) s n y is = stays xs (add s x) n y (step_there s x n y is)

  -- the first entry of the name, at its place
  pub placed_first : (xs : List X) (s : S) (n : List ℕ) (k p : ℕ) (x : X) → look s n ≡ None
      → prefix_len (λ z. not (same_name (name_of z) n)) xs ≡ p → slice_get xs p ≡ Some x → p < k
      → look (fold add s (take k xs)) n ≡ Some (made (fold add s (take p xs)) x)
  placed_first [] s n k p x none place entry below = absurd (cc)
  placed_first (z ∷ xs) s n zero p x none place entry below = absurd (omega (arith, below))
  placed_first (z ∷ xs) s n (suc k) zero x none place entry below = by_test (same_name (name_of z) n) refl
    where
      some_entry : (u v : X) → Some u ≡ Some v → u ≡ v
      some_entry u v e = cc

      by_test : (b : Bool) → same_name (name_of z) n ≡ b → look (fold add s (take (suc k) (z ∷ xs))) n ≡ Some (made s x)
      by_test true same =
          subst (λ u. look (fold add s (take (suc k) (z ∷ xs))) n ≡ Some (made s u)) (some_entry z x entry)
          (stays (take k xs) (add s z) n (made s z) (step_new s z n none same))
      by_test false same = absurd (omega (arith, rw same at place))
  placed_first (z ∷ xs) s n (suc k) (suc p) x none place entry below =
      by_test (same_name (name_of z) n) refl (λ m q. placed_first xs (add s z) n k p x m q entry (omega (arith, below)))
    where
      by_test : (b : Bool) → same_name (name_of z) n ≡ b
          → (look (add s z) n ≡ None → prefix_len (λ u. not (same_name (name_of u) n)) xs ≡ p
          → look (fold add (add s z) (take k xs)) n ≡ Some (made (fold add (add s z) (take p xs)) x))
          → look (fold add s (take (suc k) (z ∷ xs))) n ≡ Some (made (fold add s (take (suc p) (z ∷ xs))) x)
      by_test true same rest = absurd (omega (arith, rw same at place))
      by_test false same rest =
          rest (step_none s z n none same) (let h : 1 + prefix_len (λ u. not (same_name (name_of u) n)) xs ≡ suc p = rw same at place in omega (arith, h))

  -- no entry of the name stands among the first
  pub placed_none : (xs : List X) (s : S) (n : List ℕ) (k : ℕ) → look s n ≡ None
      → length (take k xs) ≤ prefix_len (λ z. not (same_name (name_of z) n)) xs → look (fold add s (take k xs)) n ≡ None
  placed_none [] s n zero none above = none
  placed_none [] s n (suc k) none above = none
  placed_none (z ∷ xs) s n zero none above = none
  placed_none (z ∷ xs) s n (suc k) none above = by_test (same_name (name_of z) n) refl (λ m. placed_none xs (add s z) n k m)
    where
      by_test : (b : Bool) → same_name (name_of z) n ≡ b
          → (look (add s z) n ≡ None → length (take k xs) ≤ prefix_len (λ u. not (same_name (name_of u) n)) xs → look (fold add (add s z) (take k xs)) n ≡ None)
          → look (fold add s (take (suc k) (z ∷ xs))) n ≡ None
      by_test true same rest = absurd (omega (arith, rw same at above))
      by_test false same rest =
          rest (step_none s z n none same) (let h : suc (length (take k xs)) ≤ 1 + prefix_len (λ u. not (same_name (name_of u) n)) xs = rw same at above in omega (arith, h))

  -- no entry has the name
  pub listed_none : (xs : List X) (s : S) (n : List ℕ) → look s n ≡ None → find (λ x. same_name (name_of x) n) xs ≡ None → look (fold add s xs) n ≡ None
  listed_none [] s n is k = is
  listed_none (x ∷ xs) s n is k = by_test (same_name (name_of x) n) refl (listed_none xs (add s x) n)
    where
      by_test : (b : Bool) → same_name (name_of x) n ≡ b
          → (look (add s x) n ≡ None → find (λ z. same_name (name_of z) n) xs ≡ None → look (fold add (add s x) xs) n ≡ None)
          → look (fold add (add s x) xs) n ≡ None
      by_test true named rest = let clash : Some x ≡ None = sym (rw named refl) ∙ k in absurd (cc)
      by_test false named rest = rest (step_none s x n is named) (rw named at k)

-- ---- the place of a name

module _ {X : Type 0} (name_of : X → List ℕ) where
  -- where the place is told
  pub placed : (xs : List X) (n : List ℕ) (p : ℕ) → position (λ x. same_name (name_of x) n) xs ≡ Some p
      → (prefix_len (λ x. not (same_name (name_of x) n)) xs ≡ p) × (p < length xs)
  placed xs n p is = by_test (nat_lt (prefix_len (λ x. not (same_name (name_of x) n)) xs) (length xs)) refl
    where
      some_place : (x y : ℕ) → Some x ≡ Some y → x ≡ y
      some_place x y e = cc

      by_test : (b : Bool) → nat_lt (prefix_len (λ x. not (same_name (name_of x) n)) xs) (length xs) ≡ b
          → (prefix_len (λ x. not (same_name (name_of x) n)) xs ≡ p) × (p < length xs)
      by_test true lt =
          let here = some_place (prefix_len (λ x. not (same_name (name_of x) n)) xs) p (rw lt at is) in
          (here, subst (λ k. k < length xs) here (grind (arith, nat_tests, lt)))
      by_test false lt = absurd (let none : None ≡ Some p = rw lt at is in cc)

  -- where there is none
  pub unplaced : (xs : List X) (n : List ℕ) → position (λ x. same_name (name_of x) n) xs ≡ None
      → length xs ≤ prefix_len (λ x. not (same_name (name_of x) n)) xs
  unplaced xs n is = by_test (nat_lt (prefix_len (λ x. not (same_name (name_of x) n)) xs) (length xs)) refl
    where
      by_test : (b : Bool) → nat_lt (prefix_len (λ x. not (same_name (name_of x) n)) xs) (length xs) ≡ b
          → length xs ≤ prefix_len (λ x. not (same_name (name_of x) n)) xs
      by_test true lt = absurd (let some : Some (prefix_len (λ x. not (same_name (name_of x) n)) xs) ≡ None = rw lt at is in cc)
      by_test false lt = grind (arith, nat_tests, lt)

  -- the entry of the name stands at its place, and has the name
  pub found_there : (xs : List X) (n : List ℕ) (p : ℕ) → prefix_len (λ x. not (same_name (name_of x) n)) xs ≡ p → p < length xs
      → (x : X) × (find (λ z. same_name (name_of z) n) xs ≡ Some x) × (slice_get xs p ≡ Some x) × (name_of x ≡ n)
  found_there [] n p place below = absurd (omega (arith, below))
  found_there (x ∷ xs) n zero place below = by_test (same_name (name_of x) n) refl
    where
      by_test : (b : Bool) → same_name (name_of x) n ≡ b
          → (y : X) × (find (λ z. same_name (name_of z) n) (x ∷ xs) ≡ Some y) × (slice_get (x ∷ xs) zero ≡ Some y) × (name_of y ≡ n)
      by_test true same = (x, rw same refl, refl, same_text (name_of x) n (sym same))
      by_test false same = absurd (omega (arith, rw same at place))
  found_there (x ∷ xs) n (suc p) place below =
      by_test (same_name (name_of x) n) refl (λ q. found_there xs n p q (omega (arith, below)))
    where
      by_test : (b : Bool) → same_name (name_of x) n ≡ b
          → (prefix_len (λ z. not (same_name (name_of z) n)) xs ≡ p
          → (y : X) × (find (λ z. same_name (name_of z) n) xs ≡ Some y) × (slice_get xs p ≡ Some y) × (name_of y ≡ n))
          → (y : X) × (find (λ z. same_name (name_of z) n) (x ∷ xs) ≡ Some y) × (slice_get (x ∷ xs) (suc p) ≡ Some y) × (name_of y ≡ n)
      by_test true same rest = absurd (omega (arith, rw same at place))
      by_test false same rest =
          let r = rest (let h : 1 + prefix_len (λ z. not (same_name (name_of z) n)) xs ≡ suc p = rw same at place in omega (arith, h)) in
          (r.0, ap (λ b. if b then Some x else find (λ z. same_name (name_of z) n) xs) same ∙ r.1, r.2, r.3)
