-- The tuples that are not gone, of those in order and of those that came later.
use Rattle.std.proofs.Common.{◌≡◌, ◌∙◌, ℕ, zero, suc, ◌+◌, ◌<◌, ◌≤◌, Bool, true, false, ◌||◌, List, [], ◌∷◌, ◌++◌, ap, arith, get_or, length, length-append, refl, sym, subst, take}
use Rattle.std.specs.declared.cmp.Ordering.{Ordering}
use Rattle.std.specs.declared.cmp.Ordering.TheVariants.{Less}
use Rattle.std.specs.List.{All, AllByRecursion}
use Rattle.std.specs.List.Sorted.{IsStrictlySortedBy}
use Rattle.td_value.specs.model.Values.{IsAscendingBody, Tuple, tuple_cmp}
use Rattle.td_body.specs.code.Numbered.{live}
use Rattle.td_body.specs.code.Members.{tuples_of}
use Rattle.td_body.proofs.TupleSets.{ascends-set, has-append, has-set, has_tuple, same_tuples}
use Rattle.td_body.proofs.RowSteps.{few_live}

-- where as many are left as there are marks, none is gone
pub live_untouched : {K : Type 0} (rows : List K) (gone : List Bool) (n : ℕ) → length gone ≡ length rows → length (live rows gone) ≡ length gone → live (take n rows) (take n gone) ≡ take n rows
live_untouched rows gone zero e full = refl
live_untouched [] gone (suc n) e full = refl
live_untouched (x ∷ rows) [] (suc n) e full = absurd (omega (arith, e))
live_untouched (x ∷ rows) (true ∷ gone) (suc n) e full = let few = few_live rows gone in absurd (omega (arith, e, full, few))
live_untouched (x ∷ rows) (false ∷ gone) (suc n) e full = ap (λ l. x ∷ l) (live_untouched rows gone n (omega (arith, e)) (omega (arith, full)))

-- the first of two lists
pub take_first : {K : Type 0} (xs ys : List K) → take (length xs) (xs ++ ys) ≡ xs
take_first [] ys = refl
take_first (x ∷ xs) ys = ap (λ l. x ∷ l) (take_first xs ys)

some_left : {K : Type 0} (P : K → Type 0) (rows : List K) (gone : List Bool) → AllByRecursion P rows → AllByRecursion P (live rows gone)
some_left P [] gone all = all
some_left P (x ∷ rows) [] all = record {}
some_left P (x ∷ rows) (true ∷ gone) all = some_left P rows gone all.1
some_left P (x ∷ rows) (false ∷ gone) all = (all.0, some_left P rows gone all.1)

-- those that are left ascend where all do
pub ascends_live : (rows : List Tuple) (gone : List Bool) → IsAscendingBody rows → IsAscendingBody (live rows gone)
unfolding IsStrictlySortedBy
ascends_live [] gone up = up
ascends_live (x ∷ rows) [] up = record {}
ascends_live (x ∷ rows) (true ∷ gone) up = ascends_live rows gone up.1
ascends_live (x ∷ rows) (false ∷ gone) up = (some_left (λ u. tuple_cmp x u ≡ Less) rows gone up.0, ascends_live rows gone up.1)

-- what holds of all holds of the later ones
pub all_later : {K : Type 0} (P : K → Type 0) (xs ys : List K) → All P (xs ++ ys) → All P ys
all_later P [] ys all = all
all_later P (x ∷ xs) ys all = all_later P xs ys (λ k d low. all (suc k) d (omega (arith, low)))

-- tuples that ascend are their set
pub set_itself : (ts : List Tuple) → IsAscendingBody ts → tuples_of ts ≡ ts
set_itself ts up = same_tuples (tuples_of ts) ts (ascends-set ts) up (λ t. has-set t ts)

-- the set of some and of the set of others
pub set_joined : (ss ts : List Tuple) → tuples_of (ss ++ tuples_of ts) ≡ tuples_of (ss ++ ts)
set_joined ss ts = same_tuples (tuples_of (ss ++ tuples_of ts)) (tuples_of (ss ++ ts)) (ascends-set (ss ++ tuples_of ts)) (ascends-set (ss ++ ts))
    (λ t. has-set t (ss ++ tuples_of ts) ∙ has-append t ss (tuples_of ts) ∙ ap (λ b. has_tuple t ss || b) (has-set t ts)
    ∙ sym (has-append t ss ts) ∙ sym (has-set t (ss ++ ts)))

pub no_items : {K : Type 0} (xs : List K) → length xs ≡ 0 → xs ≡ []
no_items [] e = refl
no_items (x ∷ xs) e = absurd (omega (arith, e))
