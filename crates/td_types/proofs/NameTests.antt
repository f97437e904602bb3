-- The tests of names tell what they say.
use Rattle.std.proofs.Common.{◌≡◌, ◌∙◌, ℕ, zero, suc, List, [], ◌∷◌, Bool, true, false, Some, refl, sym, ap, arith, true≢false}
use Rattle.std.specs.Cmp.Lexicographic.{same_text}
use Rattle.std.specs.List.{Contains, slice_get}
use Rattle.std.proofs.lemmas.Option.{get_or_from_slice_get, slice_get-get_or, slice_get_within}
use Rattle.td_types.specs.model.Headings.{are_distinct, has_name}
use Rattle.td_types.specs.code.NameTests.{AreDistinct, NameTestsTell}
use Rattle.td_types.specs.model.Types.{same_name}
use Rattle.td_types.proofs.DistinctNames.{first_of, second_of}
use Rattle.td_types.proofs.HeadingLaws.{same_name-itself}

-- a name that is among names stands at a place
place_from : (n : List ℕ) (ns : List (List ℕ)) → has_name n ns ≡ true → (i : ℕ) × (slice_get ns i ≡ Some n)
place_from n [] e = absurd (cc)
place_from n (m ∷ ns) e = by_test (place_from n ns) (same_name m n) refl
  where
    by_test : (has_name n ns ≡ true → (i : ℕ) × (slice_get ns i ≡ Some n)) → (b : Bool) → b ≡ same_name m n → (i : ℕ) × (slice_get (m ∷ ns) i ≡ Some n)
    by_test rest true is = (zero, ap Some (same_text m n is))
    by_test rest false is =
        let later = rest (rw (← is) at e) in
        (suc later.0, later.1)

-- and what stands at a place is among them
from_place : (n : List ℕ) (ns : List (List ℕ)) (i : ℕ) → slice_get ns i ≡ Some n → has_name n ns ≡ true
from_place n [] zero e = absurd (cc)
from_place n [] (suc i) e = absurd (cc)
from_place n (m ∷ ns) zero e =
    let same : m ≡ n = cc in
    rw (same, same_name-itself n) refl
from_place n (m ∷ ns) (suc i) e = by_test (from_place n ns i e) (same_name m n) refl
  where
    by_test : has_name n ns ≡ true → (b : Bool) → same_name m n ≡ b → has_name n (m ∷ ns) ≡ true
    by_test rest true is = rw is refl
    by_test rest false is = rw is rest

contained : (n : List ℕ) (ns : List (List ℕ)) → has_name n ns ≡ true → Contains ns n
contained n ns e =
    let at = place_from n ns e in
    (at.0, slice_get_within ns at.0 n at.1, get_or_from_slice_get ns at.0 n n at.1)

found : (n : List ℕ) (ns : List (List ℕ)) → Contains ns n → has_name n ns ≡ true
found n ns c = from_place n ns c.0 (slice_get-get_or ns c.0 n c.1 ∙ ap Some c.2)

apart : (ns : List (List ℕ)) → are_distinct ns ≡ true → AreDistinct ns
apart [] d zero j n p q = absurd (cc)
apart [] d (suc i) j n p q = absurd (cc)
apart (m ∷ ns) d zero zero n p q = refl
apart (m ∷ ns) d zero (suc j) n p q =
    let same : m ≡ n = cc in
    absurd (true≢false (sym (from_place n ns j q) ∙ ap (λ k. has_name k ns) (sym same) ∙ first_of _ _ d))
apart (m ∷ ns) d (suc i) zero n p q =
    let same : m ≡ n = cc in
    absurd (true≢false (sym (from_place n ns i p) ∙ ap (λ k. has_name k ns) (sym same) ∙ first_of _ _ d))
apart (m ∷ ns) d (suc i) (suc j) n p q = ap suc (apart ns (second_of _ _ d) i j n p q)

told : (ns : List (List ℕ)) → AreDistinct ns → are_distinct ns ≡ true
told [] h = refl
told (m ∷ ns) h = by_test (told ns (λ i j n p q. (let same : suc i ≡ suc j = h (suc i) (suc j) n p q in omega (arith, same)))) (has_name m ns) refl
  where
    by_test : are_distinct ns ≡ true → (b : Bool) → has_name m ns ≡ b → are_distinct (m ∷ ns) ≡ true
    by_test rest true e =
        let at = place_from m ns e in
        let same : zero ≡ suc at.0 = h zero (suc at.0) m refl at.1 in
        absurd (omega (arith, same))
    by_test rest false e = rw e rest

pub name_tests_tell : NameTestsTell
name_tests_tell = ((λ n ns. (contained n ns, found n ns)), (λ ns. (apart ns, told ns)))
