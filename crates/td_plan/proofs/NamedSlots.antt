-- Slots among others.
use Rattle.std.proofs.Common.{◌≡◌, ◌<◌, ◌≤◌, ◌+◌, ◌⊎◌, ◌∷◌, ◌++◌, inl, inr, [], List, ℕ, arith, get_or, length, subst, take}
use Rattle.std.proofs.lemmas.List.{take_more}
use Rattle.std.proofs.lemmas.List.Elements.{Contains-append_left, Contains-push_cases}
use Rattle.std.specs.List.{Contains}
use Rattle.td_plan.specs.code.Remembered.{AreAllAmong, AreAmong, AreAmongBefore, AreAmongBut, AreBefore}

pub among_itself : (names : List ℕ) → AreAmong names names
among_itself names = λ j c. c

pub among_both : (a b c : List ℕ) → AreAmong a b → AreAmong b c → AreAmong a c
among_both a b c h i = λ j d. i j (h j d)

pub no_slot : (names : List ℕ) → AreAmong [] names
no_slot names = λ j c. let below = c.1 in absurd (omega arith)

-- one more on the right
pub among_more : (names others : List ℕ) (n : ℕ) → AreAmong names others → AreAmong names (others ++ (n ∷ []))
among_more names others n h = λ j c. Contains-append_left others (n ∷ []) j (h j c)

-- one more on the left
pub among_next : (names others : List ℕ) (i : ℕ) → i < length names → AreAmong (take i names) others → Contains others (get_or names i 0)
    → AreAmong (take (i + 1) names) others
among_next names others i l h there = λ j c. by_case j (Contains-push_cases (take i names) (get_or names i 0) j (subst (λ ns. Contains ns j) (take_more names i 0 l) c))
  where
    by_case : (j : ℕ) → Contains (take i names) j ⊎ (get_or names i 0 ≡ j) → Contains others j
    by_case j (inl c) = h j c
    by_case j (inr e) = subst (Contains others) e there

module _ (slot : ℕ) where
  pub but_more : (names others : List ℕ) (n : ℕ) → AreAmongBut slot names others → AreAmongBut slot names (others ++ (n ∷ []))
  but_more names others n h = λ j c. by_case j (h j c)
    where
      by_case : (j : ℕ) → (j ≡ slot) ⊎ Contains others j → (j ≡ slot) ⊎ Contains (others ++ (n ∷ [])) j
      by_case j (inl e) = inl e
      by_case j (inr c) = inr (Contains-append_left others (n ∷ []) j c)

  pub but_next : (names others : List ℕ) (i : ℕ) → i < length names → AreAmongBut slot (take i names) others
      → (get_or names i 0 ≡ slot) ⊎ Contains others (get_or names i 0) → AreAmongBut slot (take (i + 1) names) others
  but_next names others i l h there = λ j c. by_case j (Contains-push_cases (take i names) (get_or names i 0) j (subst (λ ns. Contains ns j) (take_more names i 0 l) c))
    where
      by_case : (j : ℕ) → Contains (take i names) j ⊎ (get_or names i 0 ≡ j) → (j ≡ slot) ⊎ Contains others j
      by_case j (inl c) = h j c
      by_case j (inr e) = subst (λ k. (k ≡ slot) ⊎ Contains others k) e there

  pub before_more : (names others : List ℕ) (n : ℕ) → AreAmongBefore slot names others → AreAmongBefore slot names (others ++ (n ∷ []))
  before_more names others n h = λ j c l. Contains-append_left others (n ∷ []) j (h j c l)

  pub before_then : (names others : List ℕ) (i : ℕ) → i < length names → AreAmongBefore slot (take i names) others
      → (get_or names i 0 < slot → Contains others (get_or names i 0)) → AreAmongBefore slot (take (i + 1) names) others
  before_then names others i l h there = λ j c. by_case j (Contains-push_cases (take i names) (get_or names i 0) j (subst (λ ns. Contains ns j) (take_more names i 0 l) c))
    where
      by_case : (j : ℕ) → Contains (take i names) j ⊎ (get_or names i 0 ≡ j) → j < slot → Contains others j
      by_case j (inl c) = h j c
      by_case j (inr e) = subst (λ k. k < slot → Contains others k) e there

pub before_next : (names : List ℕ) (reach more i : ℕ) → i < length names → AreBefore reach (take i names) → reach ≤ more → get_or names i 0 < more
    → AreBefore more (take (i + 1) names)
before_next names reach more i l h within there = λ j c. by_case j (Contains-push_cases (take i names) (get_or names i 0) j (subst (λ ns. Contains ns j) (take_more names i 0 l) c))
  where
    by_case : (j : ℕ) → Contains (take i names) j ⊎ (get_or names i 0 ≡ j) → j < more
    by_case j (inl c) = let b = h j c in omega (arith, b, within)
    by_case j (inr e) = subst (λ k. k < more) e there

-- those of lists of slots
pub all_among_more : (nss : List (List ℕ)) (a b : List ℕ) → AreAllAmong nss a → AreAmong a b → AreAllAmong nss b
all_among_more [] a b h more = tt
all_among_more (ns ∷ nss) a b h more = (among_both ns a b h.0 more, all_among_more nss a b h.1 more)

pub all_among_next : (nss : List (List ℕ)) (ns a b : List ℕ) → AreAllAmong nss a → AreAmong a b → AreAmong ns b → AreAllAmong (nss ++ (ns ∷ [])) b
all_among_next [] ns a b h more there = (there, tt)
all_among_next (ms ∷ nss) ns a b h more there = (among_both ms a b h.0 more, all_among_next nss ns a b h.1 more there)
