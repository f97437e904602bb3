-- Steps of a list, which are gone through in place.
use Rattle.std.proofs.Common.{◌≡◌, ◌∙◌, ◌<◌, ◌≤◌, ◌+◌, ◌∷◌, ◌++◌, [], List, ℕ, ap, arith, drop, get_or, length, refl, slice_set, subst, sym, take}
use Rattle.std.proofs.lemmas.List.{drop-set-lt, drop_more, take_all, take_at, take_more, take_more_set}
use Rattle.td_plan.specs.declared.plan.step.Step.{Step}
use Rattle.td_plan.specs.code.Remembered.{AreEach}

module _ (Claim : ℕ → ℕ → List ℕ → Step → Step → Type 0) where
  -- one more
  each_more : (a b c : ℕ) (ns : List (List ℕ)) (os xs : List Step) (n : List ℕ) (o x : Step) → AreEach Claim a b ns os xs → Claim b c n o x
      → AreEach Claim a c (ns ++ (n ∷ [])) (os ++ (o ∷ [])) (xs ++ (x ∷ []))
  each_more a b c [] [] [] n o x h i = (c, subst (λ z. Claim z c n o x) (sym h) i, refl)
  each_more a b c [] [] (y ∷ xs) n o x h i = absurd h
  each_more a b c [] (q ∷ os) [] n o x h i = absurd h
  each_more a b c [] (q ∷ os) (y ∷ xs) n o x h i = absurd h
  each_more a b c (m ∷ ns) [] [] n o x h i = absurd h
  each_more a b c (m ∷ ns) [] (y ∷ xs) n o x h i = absurd h
  each_more a b c (m ∷ ns) (q ∷ os) [] n o x h i = absurd h
  each_more a b c (m ∷ ns) (q ∷ os) (y ∷ xs) n o x h i = (h.0, h.1, each_more h.0 b c ns os xs n o x h.2 i)

  -- the next of a list, of which those that are left stand as they were
  pub each_next : (a b c : ℕ) (ns : List (List ℕ)) (old cur : List Step) (i : ℕ) (n : List ℕ) (o x : Step) → i < length cur → length cur ≡ length old
      → o ≡ get_or cur i o → drop i cur ≡ drop i old → AreEach Claim a b ns (take i old) (take i cur) → Claim b c n o x
      → AreEach Claim a c (ns ++ (n ∷ [])) (take (i + 1) old) (take (i + 1) (slice_set cur i x)) × (drop (i + 1) (slice_set cur i x) ≡ drop (i + 1) old)
  each_next a b c ns old cur i n o x l lengths at left h step =
      let inside : i < length old = omega (arith, l, lengths) in
      let both : get_or cur i o ∷ drop (i + 1) cur ≡ get_or old i o ∷ drop (i + 1) old = sym (drop_more cur i o l) ∙ left ∙ drop_more old i o inside in
      let first : get_or old i o ≡ o = (cc) in
      let rest : drop (i + 1) cur ≡ drop (i + 1) old = (cc) in
      let olds : take (i + 1) old ≡ take i old ++ (o ∷ []) = take_more old i o inside ∙ ap (λ y. take i old ++ (y ∷ [])) first in (
        subst (λ os. AreEach Claim a c (ns ++ (n ∷ [])) os (take (i + 1) (slice_set cur i x))) (sym olds)
            (subst (AreEach Claim a c (ns ++ (n ∷ [])) (take i old ++ (o ∷ []))) (sym (take_more_set cur i x l))
            (each_more a b c ns (take i old) (take i cur) n o x h step)),
        drop-set-lt (i + 1) cur i x (omega arith) ∙ rest,
      )

  pub each_all : (a b : ℕ) (ns : List (List ℕ)) (old cur : List Step) (i n : ℕ) → length cur ≡ length old → length old ≡ n → length cur ≤ i
      → AreEach Claim a b ns (take i old) (take i cur) → AreEach Claim a b ns old (take n (cur ++ drop (length cur) old))
  each_all a b ns old cur i n lengths many past h =
      subst (AreEach Claim a b ns old) (sym (take_at cur (drop (length cur) old) n (lengths ∙ many)))
      (subst (AreEach Claim a b ns old) (take_all i cur past) (subst (λ os. AreEach Claim a b ns os (take i cur)) (take_all i old (omega (arith, past, lengths))) h))
