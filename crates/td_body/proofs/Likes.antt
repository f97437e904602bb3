-- An index that is right for other tuples too: those that have the same values in turn.
use Rattle.std.proofs.Common.{◌≡◌, ℕ, ◌+◌, ◌<◌, Bool, true, false, not, List, [], ◌∷◌, ◌++◌, Option, length, get_or, map, refl, sym, ap, ◌∙◌, arith, take}
use mathlib.Core.Bool.{beq}
use Rattle.std.proofs.lemmas.List.{take_more, map-append}
use Rattle.std.specs.List.{list_any}
use Rattle.td_value.specs.model.Values.{Tuple, Val}
use Rattle.td_body.specs.code.Numbered.{live, repeats}
use Rattle.td_body.specs.code.KeyIndexes.{agree_at}
use Rattle.td_body.specs.code.Hashes.{found_hash, part_hash}
use Rattle.td_body.specs.code.KeyParts.{tuple_values_at}
use Rattle.td_body.proofs.Walks.{agreed, either, same_values}

module _ (places : List ℕ) where
  values : List Tuple → List (List (Option Val))
  values xs = map (tuple_values_at places) xs

  head_is : (x y : Tuple) (xs ys : List Tuple) → map (tuple_values_at places) (x ∷ xs) ≡ map (tuple_values_at places) (y ∷ ys) → tuple_values_at places x ≡ tuple_values_at places y
  head_is x y xs ys e = ap (λ l. get_or l 0 []) e

  tail_of : List (List (Option Val)) → List (List (Option Val))
  tail_of [] = []
  tail_of (v ∷ vs) = vs

  tail_is : (x y : Tuple) (xs ys : List Tuple) → map (tuple_values_at places) (x ∷ xs) ≡ map (tuple_values_at places) (y ∷ ys) → map (tuple_values_at places) xs ≡ map (tuple_values_at places) ys
  unfolding tail_of
  tail_is x y xs ys e = ap tail_of e

  long_is : (xs ys : List Tuple) → map (tuple_values_at places) xs ≡ map (tuple_values_at places) ys → length (map (tuple_values_at places) xs) ≡ length (map (tuple_values_at places) ys)
  long_is xs ys e = ap length e

  pub hashes_like : (xs ys : List Tuple) → map (tuple_values_at places) xs ≡ map (tuple_values_at places) ys → map (part_hash places) xs ≡ map (part_hash places) ys
  hashes_like [] [] e = refl
  hashes_like [] (y ∷ ys) e = let l = long_is [] (y ∷ ys) e in absurd (omega (arith, l))
  hashes_like (x ∷ xs) [] e = let l = long_is (x ∷ xs) [] e in absurd (omega (arith, l))
  hashes_like (x ∷ xs) (y ∷ ys) e = λ i. found_hash (head_is x y xs ys e i) ∷ hashes_like xs ys (tail_is x y xs ys e) i

  live_like : (xs ys : List Tuple) (gone : List Bool) → map (tuple_values_at places) xs ≡ map (tuple_values_at places) ys → map (tuple_values_at places) (live xs gone) ≡ map (tuple_values_at places) (live ys gone)
  live_like [] [] gone e = refl
  live_like [] (y ∷ ys) gone e = let l = long_is [] (y ∷ ys) e in absurd (omega (arith, l))
  live_like (x ∷ xs) [] gone e = let l = long_is (x ∷ xs) [] e in absurd (omega (arith, l))
  live_like (x ∷ xs) (y ∷ ys) [] e = refl
  live_like (x ∷ xs) (y ∷ ys) (true ∷ gone) e = live_like xs ys gone (tail_is x y xs ys e)
  live_like (x ∷ xs) (y ∷ ys) (false ∷ gone) e = λ i. head_is x y xs ys e i ∷ live_like xs ys gone (tail_is x y xs ys e) i

  agree_like : (r s t u : Tuple) → tuple_values_at places r ≡ tuple_values_at places s → tuple_values_at places t ≡ tuple_values_at places u → agree_at places r t ≡ agree_at places s u
  agree_like r s t u e f = either (agree_at places r t) (agree_at places s u)
      (λ h. agreed places s u (sym e ∙ same_values places r t h ∙ f))
      (λ h. agreed places r t (e ∙ same_values places s u h ∙ sym f))

  any_like : (r s : Tuple) (xs ys : List Tuple) → tuple_values_at places r ≡ tuple_values_at places s → map (tuple_values_at places) xs ≡ map (tuple_values_at places) ys → list_any (agree_at places r) xs ≡ list_any (agree_at places s) ys
  any_like r s [] [] e f = refl
  any_like r s [] (y ∷ ys) e f = let l = long_is [] (y ∷ ys) f in absurd (omega (arith, l))
  any_like r s (x ∷ xs) [] e f = let l = long_is (x ∷ xs) [] f in absurd (omega (arith, l))
  any_like r s (x ∷ xs) (y ∷ ys) e f =
      let first = agree_like r s x y e (head_is x y xs ys f) in
      let rest = any_like r s xs ys e (tail_is x y xs ys f) in
      rw (first, rest) refl

  repeats_like : (xs ys : List Tuple) → map (tuple_values_at places) xs ≡ map (tuple_values_at places) ys → repeats (agree_at places) xs ≡ repeats (agree_at places) ys
  repeats_like [] [] e = refl
  repeats_like [] (y ∷ ys) e = let l = long_is [] (y ∷ ys) e in absurd (omega (arith, l))
  repeats_like (x ∷ xs) [] e = let l = long_is (x ∷ xs) [] e in absurd (omega (arith, l))
  repeats_like (x ∷ xs) (y ∷ ys) e =
      let first = any_like x y xs ys (head_is x y xs ys e) (tail_is x y xs ys e) in
      let rest = repeats_like xs ys (tail_is x y xs ys e) in
      rw (first, rest) refl

  pub repeats_live : (xs ys : List Tuple) (gone gone' : List Bool) → map (tuple_values_at places) xs ≡ map (tuple_values_at places) ys → gone ≡ gone' → repeats (agree_at places) (live xs gone) ≡ repeats (agree_at places) (live ys gone')
  repeats_live xs ys gone gone' e g = repeats_like (live xs gone) (live ys gone) (live_like xs ys gone e) ∙ ap (λ m. repeats (agree_at places) (live ys m)) g

  -- one tuple more in turn
  pub values_on : (xs ys : List Tuple) (n : ℕ) (x y : Tuple) → n < length xs → n < length ys → x ≡ get_or xs n x → y ≡ get_or ys n y → agree_at places x y ≡ true
      → map (tuple_values_at places) (take n xs) ≡ map (tuple_values_at places) (take n ys) → map (tuple_values_at places) (take (n + 1) xs) ≡ map (tuple_values_at places) (take (n + 1) ys)
  values_on xs ys n x y low low' e f agrees before =
      ap (map (tuple_values_at places)) (take_more xs n x low) ∙ map-append (tuple_values_at places) (take n xs) (get_or xs n x ∷ [])
      ∙ (λ i. before i ++ (ap (tuple_values_at places) (sym e) ∙ same_values places x y agrees ∙ ap (tuple_values_at places) f) i ∷ [])
      ∙ sym (map-append (tuple_values_at places) (take n ys) (get_or ys n y ∷ [])) ∙ ap (map (tuple_values_at places)) (sym (take_more ys n y low'))

pub marks_on : (xs ys : List Bool) (n : ℕ) (a b : Bool) → n < length xs → n < length ys → a ≡ not (get_or xs n true) → b ≡ not (get_or ys n true) → a ≡ b → take n xs ≡ take n ys → take (n + 1) xs ≡ take (n + 1) ys
marks_on xs ys n a b low low' e f same before =
    take_more xs n true low ∙ (λ i. before i ++ same_mark (get_or xs n true) (get_or ys n true) (sym e ∙ same ∙ f) i ∷ []) ∙ sym (take_more ys n true low')
  where
    same_mark : (p q : Bool) → not p ≡ not q → p ≡ q
    same_mark true true e = refl
    same_mark true false e = sym e
    same_mark false true e = sym e
    same_mark false false e = refl

pub same_test : (a b : Bool) → not (beq a b) ≡ false → a ≡ b
same_test true true e = refl
same_test true false e = e
same_test false true e = sym e
same_test false false e = refl
