-- Lists of names whose marks have no bit in common have no name in common.
use Rattle.std.proofs.Common.{◌≡◌, ◌∙◌, ◌<◌, ◌∷◌, ◌||◌, ℕ, Bool, true, false, List, [], ap, arith, bit_and, bit_or, max, min, refl, sym, true≢false}
use Rattle.std.proofs.lemmas.Nat.Bits.{bit_at-lt, bit_at-pow_same, bit_at-zero, bit_at_and, bit_at_or}
use Rattle.std.specs.Cmp.Lexicographic.{same_text}
use Rattle.std.specs.Int.{bit_at}
use Rattle.std.specs.List.{list_any}
use Rattle.td_catalog.proofs.SameAny.{any_found}
use Rattle.td_catalog.specs.code.NameMarks.{bit_of, name_mark, name_marks}
use Rattle.td_types.specs.model.Headings.{has_name}
use Rattle.td_types.specs.model.Types.{same_name}

set_left : (a b : ℕ) → a ≡ 1 → b < 2 → max a b ≡ 1
set_left a b e lt = omega arith

set_right : (a b : ℕ) → b ≡ 1 → a < 2 → max a b ≡ 1
set_right a b e lt = omega arith

never_both : (a : ℕ) → a ≡ 0 → a ≡ 1 → ⊥
never_both a unset set = omega arith

-- a bit that is set stays so
stays : (i : ℕ) (ns : List (List ℕ)) (marks : ℕ) → bit_at marks i ≡ 1 → bit_at (name_marks marks ns) i ≡ 1
stays i [] marks e = e
stays i (n ∷ ns) marks e =
    stays i ns (bit_or marks (name_mark n)) (bit_at_or marks (name_mark n) i ∙ set_left (bit_at marks i) (bit_at (name_mark n) i) e (bit_at-lt (name_mark n) i))

-- the bit of each of the names is set
marked : (n : List ℕ) (ns : List (List ℕ)) (marks : ℕ) → has_name n ns ≡ true → bit_at (name_marks marks ns) (bit_of n) ≡ 1
marked n [] marks e = absurd (true≢false (sym e))
marked n (m ∷ ns) marks e = by_name (same_name m n) refl e (marked n ns with_it)
  where
    with_it : ℕ
    with_it = bit_or marks (name_mark m)

    by_name : (b : Bool) → same_name m n ≡ b → (b || has_name n ns) ≡ true
        → (has_name n ns ≡ true → bit_at (name_marks with_it ns) (bit_of n) ≡ 1) → bit_at (name_marks with_it ns) (bit_of n) ≡ 1
    by_name true one f later =
        stays (bit_of n) ns with_it
        (bit_at_or marks (name_mark m) (bit_of n)
        ∙ set_right (bit_at marks (bit_of n)) (bit_at (name_mark m) (bit_of n)) (ap (λ k. bit_at (name_mark k) (bit_of n)) (same_text m n (sym one)) ∙ bit_at-pow_same (bit_of n))
        (bit_at-lt marks (bit_of n)))
    by_name false other f later = later f

-- none is common
pub apart : (ms ns : List (List ℕ)) → bit_and (name_marks 0 ms) (name_marks 0 ns) ≡ 0 → list_any (λ n. has_name n ns) ms ≡ false
apart ms ns none = by_any (list_any (λ n. has_name n ns) ms) refl
  where
    by_any : (b : Bool) → list_any (λ n. has_name n ns) ms ≡ b → list_any (λ n. has_name n ns) ms ≡ false
    by_any false is = is
    by_any true is =
        let k = any_found (λ n. has_name n ns) ms is in
        let i = bit_of k.0 in
        let both : bit_at (bit_and (name_marks 0 ms) (name_marks 0 ns)) i ≡ 1 =
        bit_at_and (name_marks 0 ms) (name_marks 0 ns) i ∙ ap (λ b. min b (bit_at (name_marks 0 ns) i)) (marked k.0 ms 0 k.1) ∙ ap (min 1) (marked k.0 ns 0 k.2) in
        absurd (never_both (bit_at (bit_and (name_marks 0 ms) (name_marks 0 ns)) i) (ap (λ a. bit_at a i) none ∙ bit_at-zero i) both)
