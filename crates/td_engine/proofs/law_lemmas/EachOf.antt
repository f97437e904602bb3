-- What holds of each of a list, where one is added, one is left out, or each is changed.
use Rattle.std.proofs.Common.{◌≡◌, ◌∙◌, ◌∷◌, ◌++◌, ℕ, zero, suc, Bool, true, false, List, [], Some, append_assoc, map, refl, subst, sym}
use Rattle.std.specs.Prelude.{◌||◌, if◌then◌else◌}
use Rattle.std.specs.List.{AllByRecursion, find, list_any, slice_get}
use Rattle.std.specs.Set.{remove_key}
use Rattle.td_catalog.specs.model.TypedDatabases.{EachAfter}

module _ {A : Type 0} where
  -- one more
  pub all_push : (P : A → Type 0) (xs : List A) (x : A) → AllByRecursion P xs → P x → AllByRecursion P (xs ++ (x ∷ []))
  all_push P [] x h p = (p, tt)
  all_push P (y ∷ xs) x h p = (h.0, all_push P xs x h.1 p)

  -- one less
  pub all_removed : (P : A → Type 0) (test : A → Bool) (xs : List A) → AllByRecursion P xs → AllByRecursion P (remove_key test xs)
  all_removed P test [] h = tt
  all_removed P test (x ∷ xs) h = by_test (test x) (all_removed P test xs h.1)
    where
      by_test : (b : Bool) → AllByRecursion P (remove_key test xs) → AllByRecursion P (if b then xs else x ∷ remove_key test xs)
      by_test true rest = h.1
      by_test false rest = (h.0, rest)

  -- what follows of each from what else is known of it
  pub all_given : (R P Q : A → Type 0) → ((x : A) → R x → P x → Q x) → (xs : List A) → AllByRecursion R xs → AllByRecursion P xs → AllByRecursion Q xs
  all_given R P Q f [] r h = tt
  all_given R P Q f (x ∷ xs) r h = (f x r.0 h.0, all_given R P Q f xs r.1 h.1)

  -- what follows of each
  pub all_follow : (P Q : A → Type 0) → ((x : A) → P x → Q x) → (xs : List A) → AllByRecursion P xs → AllByRecursion Q xs
  all_follow P Q f [] h = tt
  all_follow P Q f (x ∷ xs) h = (f x h.0, all_follow P Q f xs h.1)

  -- what follows of each, whatever stands before it
  pub all_from_each : (P : List A → A → Type 0) (Q : A → Type 0) → ((earlier : List A) (x : A) → P earlier x → Q x) → (xs : List A) → EachAfter P xs → AllByRecursion Q xs
  all_from_each P Q f xs each = from [] xs refl
    where
      from : (earlier rest : List A) → xs ≡ earlier ++ rest → AllByRecursion Q rest
      from earlier [] is = tt
      from earlier (x ∷ rest) is = (f earlier x (each earlier rest x is), from (earlier ++ (x ∷ [])) rest (is ∙ sym (append_assoc earlier (x ∷ []) rest)))

  -- two things hold
  pub all_both : (P Q : A → Type 0) (xs : List A) → AllByRecursion P xs → AllByRecursion Q xs → AllByRecursion (λ x. P x × Q x) xs
  all_both P Q = all_given P Q (λ x. P x × Q x) (λ x p q. (p, q))

  -- what is made of each
  pub all_mapped : (P Q : A → Type 0) (f : A → A) → ((x : A) → P x → Q (f x)) → (xs : List A) → AllByRecursion P xs → AllByRecursion Q (map f xs)
  all_mapped P Q f says [] h = tt
  all_mapped P Q f says (x ∷ xs) h = (says x h.0, all_mapped P Q f says xs h.1)

  -- of the first that passes a test
  pub of_found : (P : A → Type 0) (test : A → Bool) (xs : List A) (x : A) → AllByRecursion P xs → find test xs ≡ Some x → P x
  of_found P test [] x h e = absurd (cc)
  of_found P test (y ∷ xs) x h e = by_test (test y) refl (of_found P test xs x h.1)
    where
      one : Some y ≡ Some x → y ≡ x
      one f = cc

      by_test : (b : Bool) → test y ≡ b → (find test xs ≡ Some x → P x) → P x
      by_test true is rest = subst P (one (rw is at e)) h.0
      by_test false is rest = rest (rw is at e)

-- of two tests neither is passed
pub neither : (a b : Bool) → (a || b) ≡ false → (a ≡ false) × (b ≡ false)
neither false false e = (refl, refl)
neither false true e = absurd (cc)
neither true b e = absurd (cc)

-- none of a list passes a test
pub none_passes : {A : Type 0} (test : A → Bool) (xs : List A) → list_any test xs ≡ false → AllByRecursion (λ x. test x ≡ false) xs
none_passes test [] h = tt
none_passes test (x ∷ xs) h = let p = neither (test x) (list_any test xs) h in (p.0, none_passes test xs p.1)

-- of the one at a place
pub of_place : {A : Type 0} (P : A → Type 0) (xs : List A) (place : ℕ) (x : A) → AllByRecursion P xs → slice_get xs place ≡ Some x → P x
of_place P [] place x h e = absurd (cc)
of_place P (y ∷ ys) zero x h e = let same : y ≡ x = cc in subst P same h.0
of_place P (y ∷ ys) (suc place) x h e = of_place P ys place x h.1 e
