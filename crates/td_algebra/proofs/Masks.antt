-- What a mask keeps of a list.
use Rattle.std.proofs.Common.{◌≡◌, ap, refl, Bool, true, false, List, [], ◌∷◌, filter, map}
use Rattle.std.specs.declared.cmp.Ordering.{Ordering}
use Rattle.std.specs.declared.cmp.Ordering.TheVariants.{Less}
use Rattle.std.specs.List.{AllByRecursion}
use Rattle.std.specs.List.Sorted.{IsStrictlySortedBy}
use Rattle.td_algebra.specs.code.Masks.{kept_by}

-- the mask of a test keeps what the test passes
pub kept_by_test : {X : Type 0} (p : X → Bool) (xs : List X) → kept_by (map p xs) xs ≡ filter p xs
kept_by_test p [] = refl
kept_by_test p (x ∷ xs) = by_test (kept_by_test p xs) (p x) refl
  where
    by_test : kept_by (map p xs) xs ≡ filter p xs → (b : Bool) → p x ≡ b → kept_by (map p (x ∷ xs)) (x ∷ xs) ≡ filter p (x ∷ xs)
    by_test rest true e = rw e (ap (λ l. x ∷ l) rest)
    by_test rest false e = rw e rest

-- what holds of each item holds of each that is kept
pub kept_all : {X : Type 0} (P : X → Type 0) (bs : List Bool) (xs : List X) → AllByRecursion P xs → AllByRecursion P (kept_by bs xs)
kept_all P [] xs h = tt
kept_all P (b ∷ bs) [] h = tt
kept_all P (true ∷ bs) (x ∷ xs) h = (h.0, kept_all P bs xs h.1)
kept_all P (false ∷ bs) (x ∷ xs) h = kept_all P bs xs h.1

-- what is kept of a list that ascends, ascends
pub kept_ascends : {X : Type 0} (R : X → X → Ordering) (bs : List Bool) (xs : List X) → IsStrictlySortedBy R xs → IsStrictlySortedBy R (kept_by bs xs)
unfolding IsStrictlySortedBy
kept_ascends R [] xs h = tt
kept_ascends R (b ∷ bs) [] h = tt
kept_ascends R (true ∷ bs) (x ∷ xs) h = (kept_all (λ y. R x y ≡ Less) bs xs h.0, kept_ascends R bs xs h.1)
kept_ascends R (false ∷ bs) (x ∷ xs) h = kept_ascends R bs xs h.1
