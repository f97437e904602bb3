-- What a walk finds that keeps the tuples which pass a test.
use Rattle.std.proofs.Common.{◌≡◌, ℕ, ◌<◌, Bool, true, false, not, cond, ◌||◌, ◌&&◌, List, [], ◌∷◌, ◌++◌, length, get_or, map, refl, sym, ap, ◌∙◌, arith, filter, true≢false}
use Rattle.std.specs.List.{list_any}
use Rattle.std.specs.Ordering.{eq_by_cmp}
use Rattle.td_value.specs.model.Values.{HaveSameMembers, Tuple, tuple_cmp}
use Rattle.td_value.proofs.Members.{contained, found}
use Rattle.td_body.specs.code.Chains.{IsWalked}
use Rattle.td_body.specs.code.Numbered.{live}
use Rattle.td_body.proofs.Lives.{any_live}
use Rattle.td_body.proofs.TupleSets.{has-append, has-filter, has_tuple, split_tuple}
use Rattle.td_body.proofs.Walks.{either, live_taken, walk_done}

both : (a b : Bool) → (a && b) ≡ true → (a ≡ true) × (b ≡ true)
both true b e = (refl, e)
both false b e = absurd (true≢false (sym e))

or_true : (b : Bool) → (b || true) ≡ true
or_true true = refl
or_true false = refl

or_false : (b : Bool) → (b || false) ≡ b
or_false true = refl
or_false false = refl

same : Tuple → Tuple → Bool
same = eq_by_cmp tuple_cmp

is_same : (t : Tuple) → eq_by_cmp tuple_cmp t t ≡ true
is_same t = split_tuple t t (λ _ e. e) (λ ne _. absurd (ne refl))

-- one tuple more among others
has_more : (t : Tuple) (ts : List Tuple) (r : Tuple) → has_tuple t (ts ++ r ∷ []) ≡ (has_tuple t ts || eq_by_cmp tuple_cmp t r)
has_more t ts r = has-append t ts (r ∷ []) ∙ ap (λ b. has_tuple t ts || b) (or_false (eq_by_cmp tuple_cmp t r))

pub have_same : (ss ts : List Tuple) → ((t : Tuple) → has_tuple t ss ≡ has_tuple t ts) → HaveSameMembers ss ts
have_same ss ts h t = (λ c. contained t ts (sym (h t) ∙ found t ss c), λ c. contained t ss (h t ∙ found t ts c))

module _ (pass : Tuple → Bool) (rows : List Tuple) (gone : List Bool) (d : Tuple) where
  abbrev pub fresh : List Tuple → Tuple → Bool
  fresh kept r = pass r && not (has_tuple r kept)

  abbrev pub untold : List Tuple → ℕ → Bool
  untold kept i = not (get_or gone i true) && fresh kept (get_or rows i d)

  more_has : (t r : Tuple) (kept : List Tuple) → has_tuple t kept ≡ true → has_tuple t (kept ++ r ∷ []) ≡ true
  more_has t r kept e = has_more t kept r ∙ ap (λ b. b || eq_by_cmp tuple_cmp t r) e

  last_has : (r : Tuple) (kept : List Tuple) → has_tuple r (kept ++ r ∷ []) ≡ true
  last_has r kept = has_more r kept r ∙ ap (λ b. has_tuple r kept || b) (is_same r) ∙ or_true (has_tuple r kept)

  -- what is told stays told
  stays : (kept : List Tuple) (r : Tuple) (i : ℕ) → untold kept i ≡ false → untold (kept ++ r ∷ []) i ≡ false
  stays kept r i e = by (not (get_or gone i true)) (pass (get_or rows i d)) (has_tuple (get_or rows i d) kept) refl e
    where
      by : (a b c : Bool) → has_tuple (get_or rows i d) kept ≡ c → (a && (b && not c)) ≡ false → (a && (b && not (has_tuple (get_or rows i d) (kept ++ r ∷ [])))) ≡ false
      by false b c q z = refl
      by true false c q z = refl
      by true true true q z = ap not (more_has (get_or rows i d) r kept q)
      by true true false q z = absurd (true≢false z)

  module _ (kept kept' : List Tuple) (k : ℕ) (step : kept' ≡ cond (not (get_or gone k true) && pass (get_or rows k d)) (kept ++ get_or rows k d ∷ []) kept) where
    pub told_on : (i : ℕ) → untold kept i ≡ false → untold kept' i ≡ false
    told_on i e = ap (λ f. untold f i) step ∙ by (not (get_or gone k true) && pass (get_or rows k d))
      where
        by : (b : Bool) → untold (cond b (kept ++ get_or rows k d ∷ []) kept) i ≡ false
        by true = stays kept (get_or rows k d) i e
        by false = e

    pub told_here : untold kept' k ≡ false
    told_here = ap (λ f. untold f k) step ∙ by (not (get_or gone k true)) (pass (get_or rows k d))
      where
        by : (a b : Bool) → (a && (b && not (has_tuple (get_or rows k d) (cond (a && b) (kept ++ get_or rows k d ∷ []) kept)))) ≡ false
        by false b = refl
        by true false = refl
        by true true = ap not (last_has (get_or rows k d) kept)

    pub sound_on : length gone ≡ length rows → k < length rows → ((t : Tuple) → has_tuple t kept ≡ true → (pass t && has_tuple t (live rows gone)) ≡ true)
        → (t : Tuple) → has_tuple t kept' ≡ true → (pass t && has_tuple t (live rows gone)) ≡ true
    sound_on e low sound t h = by (get_or gone k true) (pass (get_or rows k d)) refl refl (sym (ap (has_tuple t) step) ∙ h)
      where
        this : get_or gone k true ≡ false → pass (get_or rows k d) ≡ true → has_tuple t (kept ++ get_or rows k d ∷ []) ≡ true
            → (pass t && has_tuple t (live rows gone)) ≡ true
        this there passes z = split_tuple t (get_or rows k d)
            (λ is _.
            (λ i. pass (is i) && has_tuple (is i) (live rows gone))
            ∙ (λ i. passes i && has_tuple (get_or rows k d) (live rows gone))
            ∙ any_live (λ r. eq_by_cmp tuple_cmp (get_or rows k d) r) rows gone k d e low there (is_same (get_or rows k d)))
            (λ _ q. sound t (sym (has_more t kept (get_or rows k d) ∙ ap (λ b. has_tuple t kept || b) q ∙ or_false (has_tuple t kept)) ∙ z))

        by : (a b : Bool) → get_or gone k true ≡ a → pass (get_or rows k d) ≡ b → has_tuple t (cond (not a && b) (kept ++ get_or rows k d ∷ []) kept) ≡ true
            → (pass t && has_tuple t (live rows gone)) ≡ true
        by true b p q z = sound t z
        by false false p q z = sound t z
        by false true p q z = this p q z

  -- the walk has ended
  pub found_all : (hash : Tuple → ℕ) (skipped : List Bool) (part : ℕ) (kept : List Tuple) (n : ℕ) → length gone ≡ length rows → n ≡ length rows → ((t : Tuple) → pass t ≡ true → hash t ≡ part)
      → IsWalked (map hash rows) skipped n part (untold kept) 0 → ((t : Tuple) → has_tuple t kept ≡ true → (pass t && has_tuple t (live rows gone)) ≡ true)
      → HaveSameMembers kept (filter pass (live rows gone))
  found_all hash skipped part kept n e m hashed walked sound =
      let none : list_any (fresh kept) (live rows gone) ≡ false =
      sym (ap (list_any (fresh kept)) (live_taken n rows gone m e))
      ∙ walk_done hash rows gone skipped n d part (fresh kept) e (omega (arith, m)) (λ r h. hashed r ((both (pass r) (not (has_tuple r kept)) h).0)) walked in
      have_same kept (filter pass (live rows gone)) (λ t.
      either (has_tuple t kept) (pass t && has_tuple t (live rows gone)) (sound t) (λ h. let two = both (pass t) (has_tuple t (live rows gone)) h in there t two.0 two.1 none (has_tuple t kept) refl)
      ∙ sym (has-filter pass t (live rows gone)))
    where
      some : (p : Tuple → Bool) (t : Tuple) (xs : List Tuple) → has_tuple t xs ≡ true → p t ≡ true → list_any p xs ≡ true
      some p t [] h q = absurd (true≢false (sym h))
      some p t (x ∷ xs) h q = split_tuple t x
          (λ is _. ap (λ r. p r || list_any p xs) (sym is) ∙ ap (λ b. b || list_any p xs) q)
          (λ _ z. ap (λ b. p x || b) (some p t xs (sym (ap (λ b. b || has_tuple t xs) z) ∙ h) q) ∙ or_true (p x))

      there : (t : Tuple) → pass t ≡ true → has_tuple t (live rows gone) ≡ true → list_any (fresh kept) (live rows gone) ≡ false → (b : Bool) → has_tuple t kept ≡ b → b ≡ true
      there t a h none true q = refl
      there t a h none false q = absurd (true≢false (sym (some (fresh kept) t (live rows gone) h (rw (a, q) refl)) ∙ none))
