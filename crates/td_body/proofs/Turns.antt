-- A loop over the indexes, in which each is changed in turn.
use Rattle.std.proofs.Common.{◌≡◌, ◌∙◌, ◌+◌, ◌<◌, ◌≤◌, ℕ, zero, suc, List, [], ◌∷◌, map, arith, ap, get_or, length, refl, set, subst, sym, ◌⊎◌, inl, inr}
use Rattle.std.proofs.lemmas.Bool.{cases_lt}
use Rattle.std.specs.List.{All}
use Rattle.std.proofs.lemmas.List.{get_or_default, get_or-set_other, get_or-set_same, length-set}
use Rattle.td_body.specs.declared.hashed.index.KeyIndex.{KeyIndex}
use Rattle.td_body.specs.code.Turns.{EachTurned, TurnedBelow}
use Rattle.td_body.proofs.Splits.{split_nat}

module _ (R : KeyIndex → KeyIndex → Type 0) (xs : List KeyIndex) where
  pub turn_begin : TurnedBelow R 0 xs xs
  turn_begin = record { many = refl; done = λ k d low. absurd (omega (arith, low)); rest = λ k d low. refl }

  pub turn_on : (ys : List KeyIndex) (n : ℕ) (d y : KeyIndex) → TurnedBelow R n xs ys → n < length ys → R (get_or ys n d) y → TurnedBelow R (n + 1) xs (set ys n y)
  turn_on ys n d y x low here = record {
    many = length-set ys n y ∙ x.many;
    done = λ k e less. split_nat k n
        (λ same _. subst (λ z. R (get_or xs k e) z) (sym (ap (λ j. get_or (set ys n y) j e) same ∙ get_or-set_same ys n y e low)) (subst (λ z. R z y) (from k e same) here))
        (λ other _. subst (λ z. R (get_or xs k e) z) (sym (get_or-set_other ys n k y e other)) (x.done k e (omega (arith, less, other))));
    rest = λ k e more. get_or-set_other ys n k y e (λ same. omega (arith, same, more)) ∙ x.rest k e (omega (arith, more));
  }
    where
      inside : (zs : List KeyIndex) (k : ℕ) (d e : KeyIndex) → k < length zs → get_or zs k d ≡ get_or zs k e
      inside zs k d e low = get_or_default zs k d e low

      from : (k : ℕ) (e : KeyIndex) → k ≡ n → get_or ys n d ≡ get_or xs k e
      from k e same = inside ys n d e low ∙ x.rest n e (omega arith) ∙ ap (λ j. get_or xs j e) (sym same)

  pub turn_end : (ys : List KeyIndex) (n : ℕ) → length ys ≤ n → TurnedBelow R n xs ys → EachTurned R xs ys
  turn_end ys n all x = record { many = x.many; each = λ k d low. x.done k d (omega (arith, low, all, x.many)) }

  -- a loop that stops early leaves the others
  pub turn_stop : ((x : KeyIndex) → R x x) → (ys : List KeyIndex) (n : ℕ) → TurnedBelow R n xs ys → EachTurned R xs ys
  turn_stop same ys n x = record { many = x.many; each = λ k d low. by k d (cases_lt k n) }
    where
      by : (k : ℕ) (d : KeyIndex) → (k < n) ⊎ (n ≤ k) → R (get_or xs k d) (get_or ys k d)
      by k d (inl less) = x.done k d less
      by k d (inr more) = subst (λ z. R (get_or xs k d) z) (sym (x.rest k d more)) (same (get_or xs k d))

-- what holds of each, from what each has become
pub turned_all : (R : KeyIndex → KeyIndex → Type 0) (P Q : KeyIndex → Type 0) (xs ys : List KeyIndex) → EachTurned R xs ys → ((x y : KeyIndex) → R x y → P x → Q y) → All P xs → All Q ys
turned_all R P Q xs ys t f all k d low =
    let within : k < length xs = omega (arith, low, t.many) in
    f (get_or xs k d) (get_or ys k d) (t.each k d within) (all k d within)

pub room_more : (P : KeyIndex → Type 0) (ys : List KeyIndex) (n : ℕ) (y : KeyIndex) → n < length ys → ((k : ℕ) (d : KeyIndex) → k < n → P (get_or ys k d)) → P y
    → (k : ℕ) (d : KeyIndex) → k < n + 1 → P (get_or (set ys n y) k d)
room_more P ys n y low done here k d less = split_nat k n
    (λ same _. subst P (sym (ap (λ j. get_or (set ys n y) j d) same ∙ get_or-set_same ys n y d low)) here)
    (λ other _. subst P (sym (get_or-set_other ys n k y d other)) (done k d (omega (arith, less, other))))

-- what a function gives of each stays where each turn leaves it
pub same_map : {Y : Type 0} (f : KeyIndex → Y) (xs ys : List KeyIndex) → length ys ≡ length xs → ((k : ℕ) (d : KeyIndex) → k < length xs → f (get_or ys k d) ≡ f (get_or xs k d)) → map f ys ≡ map f xs
same_map f [] [] e same = refl
same_map f [] (y ∷ ys) e same = absurd (omega (arith, e))
same_map f (x ∷ xs) [] e same = absurd (omega (arith, e))
same_map f (x ∷ xs) (y ∷ ys) e same = λ i. same zero x (omega arith) i ∷ same_map f xs ys (omega (arith, e)) (λ k d low. same (suc k) d (omega (arith, low))) i

pub turned_places : (R : KeyIndex → KeyIndex → Type 0) (xs ys : List KeyIndex) → EachTurned R xs ys → ((x y : KeyIndex) → R x y → y.places.items ≡ x.places.items)
    → map (λ (index : KeyIndex). index.places.items) ys ≡ map (λ (index : KeyIndex). index.places.items) xs
turned_places R xs ys t f = same_map (λ (index : KeyIndex). index.places.items) xs ys t.many (λ k d low. f (get_or xs k d) (get_or ys k d) (t.each k d low))
