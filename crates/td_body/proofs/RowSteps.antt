-- The tuples that are not gone among the first ones.
use Rattle.std.proofs.Common.{◌≡◌, ◌∙◌, ℕ, zero, suc, ◌+◌, ◌<◌, ◌≤◌, Bool, true, false, not, cond, ◌&&◌, List, [], ◌∷◌, ◌++◌, ap, arith, get_or, length, append_assoc, length-append, refl, set, subst, sym, take, true≢false}
use Rattle.std.proofs.lemmas.Cmp.{eq_by_cmp_equiv}
use Rattle.std.proofs.lemmas.List.{get_or_append_left, take_more}
use Rattle.std.specs.Cmp.{IsEquivalence}
use Rattle.std.specs.List.{All, list_any}
use Rattle.td_value.specs.model.Values.{Tuple}
use Rattle.td_value.specs.code.ValueOrder.{tuple_Decides, tuple_order_total}
use Rattle.td_body.specs.code.Numbered.{live, repeats, tuple_eq}
use Rattle.td_body.proofs.Lives.{live_gap, live_more, repeats_gap}

pub tuple_laws : IsEquivalence tuple_eq
tuple_laws = eq_by_cmp_equiv tuple_order_total

pub tuple_equal : (s t : Tuple) → tuple_eq s t ≡ true → s ≡ t
tuple_equal s t e = (tuple_Decides s t).0 e

-- ---- the first n of them

pub length_taken : {K : Type 0} (n : ℕ) (xs : List K) → n ≤ length xs → length (take n xs) ≡ n
length_taken zero xs low = refl
length_taken (suc n) [] low = absurd (omega (arith, low))
length_taken (suc n) (x ∷ xs) low = let rest = length_taken n xs (omega (arith, low)) in omega (arith, rest)

pub all_taken : {K : Type 0} (n : ℕ) (xs : List K) → length xs ≡ n → take n xs ≡ xs
all_taken zero [] e = refl
all_taken zero (x ∷ xs) e = absurd (omega (arith, e))
all_taken (suc n) [] e = refl
all_taken (suc n) (x ∷ xs) e = ap (λ l. x ∷ l) (all_taken n xs (omega (arith, e)))

pub live_whole : {K : Type 0} (n : ℕ) (rows : List K) (gone : List Bool) → n ≡ length rows → length gone ≡ length rows → live (take n rows) (take n gone) ≡ live rows gone
live_whole n rows gone e m = let f : length gone ≡ n = m ∙ sym e in λ i. live (all_taken n rows (sym e) i) (all_taken n gone f i)

pub live_unmoved : {K : Type 0} (rows : List K) (gone : List Bool) (r : K) → length gone ≡ length rows → live (rows ++ r ∷ []) (gone ++ true ∷ []) ≡ live rows gone
live_unmoved [] [] r e = refl
live_unmoved [] (m ∷ gone) r e = absurd (omega (arith, e))
live_unmoved (x ∷ rows) [] r e = absurd (omega (arith, e))
live_unmoved (x ∷ rows) (true ∷ gone) r e = live_unmoved rows gone r (omega (arith, e))
live_unmoved (x ∷ rows) (false ∷ gone) r e = ap (λ l. x ∷ l) (live_unmoved rows gone r (omega (arith, e)))

module _ {K : Type 0} (rows : List K) (gone : List Bool) (n : ℕ) (d : K) (e : length gone ≡ length rows) (low : n < length rows) where
  marks_taken : length (take n gone) ≡ length (take n rows)
  marks_taken = length_taken n gone (omega (arith, e, low)) ∙ sym (length_taken n rows (omega (arith, low)))

  pub live_next : get_or gone n true ≡ false → live (take (n + 1) rows) (take (n + 1) gone) ≡ live (take n rows) (take n gone) ++ get_or rows n d ∷ []
  live_next there =
      (λ i. live (take_more rows n d low i) ((take_more gone n true (omega (arith, low, e)) ∙ ap (λ m. take n gone ++ m ∷ []) there) i))
      ∙ live_more (take n rows) (take n gone) (get_or rows n d) marks_taken

  pub live_next_gone : get_or gone n true ≡ true → live (take (n + 1) rows) (take (n + 1) gone) ≡ live (take n rows) (take n gone)
  live_next_gone there =
      (λ i. live (take_more rows n d low i) ((take_more gone n true (omega (arith, low, e)) ∙ ap (λ m. take n gone ++ m ∷ []) there) i))
      ∙ live_unmoved (take n rows) (take n gone) (get_or rows n d) marks_taken

-- ---- how many of them there are

pub few_live : {K : Type 0} (rows : List K) (gone : List Bool) → length (live rows gone) ≤ length rows
few_live [] gone = omega arith
few_live (r ∷ rows) [] = omega arith
few_live (r ∷ rows) (true ∷ gone) = let few = few_live rows gone in omega (arith, few)
few_live (r ∷ rows) (false ∷ gone) = let few = few_live rows gone in omega (arith, few)

-- where as many are there as there are numbers, all are there
pub whole_live : {K : Type 0} (rows : List K) (gone : List Bool) → length gone ≡ length rows → length (live rows gone) ≡ length gone → live rows gone ≡ rows
whole_live [] gone e many = refl
whole_live (r ∷ rows) [] e many = absurd (omega (arith, e))
whole_live (r ∷ rows) (true ∷ gone) e many = let few = few_live rows gone in absurd (omega (arith, few, e, many))
whole_live (r ∷ rows) (false ∷ gone) e many = ap (λ l. r ∷ l) (whole_live rows gone (omega (arith, e)) (omega (arith, many)))

-- what holds of all holds of those that are there
pub all_live : {K : Type 0} (P : K → Type 0) (rows : List K) (gone : List Bool) → All P rows → All P (live rows gone)
all_live P [] gone all = λ k d low. absurd (omega (arith, low))
all_live P (r ∷ rows) [] all = λ k d low. absurd (omega (arith, low))
all_live P (r ∷ rows) (true ∷ gone) all = all_live P rows gone (λ k d low. all (suc k) d (omega (arith, low)))
all_live P (r ∷ rows) (false ∷ gone) all = first (all_live P rows gone (λ k d low. all (suc k) d (omega (arith, low))))
  where
    first : All P (live rows gone) → All P (r ∷ live rows gone)
    first rest zero d low = all zero d (omega arith)
    first rest (suc k) d low = rest k d (omega (arith, low))

-- the tuple of a number comes back
pub repeats_back : {K : Type 0} (alike : K → K → Bool) → IsEquivalence alike → (rows : List K) (gone : List Bool) (i : ℕ) (d : K) → length gone ≡ length rows → i < length rows
    → get_or gone i false ≡ true → repeats alike (live rows (set gone i false)) ≡ cond (list_any (alike (get_or rows i d)) (live rows gone)) 1 0 + repeats alike (live rows gone)
repeats_back alike laws rows gone i d e low marked =
    let gap = live_gap rows gone i d e low marked in
    ap (repeats alike) gap.2 ∙ repeats_gap alike laws gap.0 gap.1 (get_or rows i d)
    ∙ ap (λ zs. cond (list_any (alike (get_or rows i d)) zs) 1 0 + repeats alike zs) (sym gap.3)

-- ---- tests

pub both_hold : (a b : Bool) → (not a && b) ≡ true → (a ≡ false) × (b ≡ true)
both_hold true b e = absurd (true≢false (sym e))
both_hold false b e = (refl, e)

pub mark_clear : (b c : Bool) → c ≡ not b → c ≡ true → b ≡ false
mark_clear true c e t = absurd (true≢false (sym t ∙ e))
mark_clear false c e t = refl

pub mark_set : (b c : Bool) → c ≡ not b → not c ≡ true → b ≡ true
mark_set true c e t = refl
mark_set false c e t = absurd (true≢false (sym t ∙ ap not e))

pub none_at_all : {K : Type 0} (xs : List K) → length xs ≡ 0 → xs ≡ []
none_at_all [] e = refl
none_at_all (x ∷ xs) e = absurd (omega (arith, e))

-- ---- all but the last

pub all_front : {K : Type 0} (P : K → Type 0) (xs ys : List K) (y : K) → All P (xs ++ (ys ++ y ∷ [])) → All P (xs ++ ys)
all_front P xs ys y all k d low =
    let joined : xs ++ (ys ++ y ∷ []) ≡ (xs ++ ys) ++ y ∷ [] = sym (append_assoc xs ys (y ∷ [])) in
    subst P (get_or_append_left (xs ++ ys) (y ∷ []) d k low)
    (subst (All P) joined all k d (omega (arith, low, length-append (xs ++ ys) (y ∷ []))))
