-- Which items are there, and how many are alike to another.
use Rattle.std.proofs.Common.{◌≡◌, ℕ, zero, suc, ◌+◌, ◌-◌, ◌<◌, Bool, true, false, not, cond, ◌||◌, ◌&&◌, List, [], ◌∷◌, ◌++◌, length, get_or, set, take, refl, sym, ap, ◌∙◌, arith, subst, true≢false, length-append}
use Rattle.std.specs.List.{list_any}
use Rattle.std.specs.Cmp.{IsEquivalence}
use Rattle.td_body.specs.code.Numbered.{front, live, repeats}

pub front_push : {K : Type 0} (xs : List K) (x : K) → front (xs ++ x ∷ []) ≡ xs
front_push [] x = refl
front_push (y ∷ []) x = refl
front_push (y ∷ z ∷ zs) x = ap (λ l. y ∷ l) (front_push (z ∷ zs) x)

pub append_none : {K : Type 0} (xs : List K) → xs ++ [] ≡ xs
append_none [] = refl
append_none (x ∷ xs) = ap (λ l. x ∷ l) (append_none xs)

pub front_take : {K : Type 0} (xs : List K) → take (length xs - 1) xs ≡ front xs
front_take [] = refl
front_take (x ∷ []) = refl
front_take (x ∷ y ∷ ys) =
    let more : suc (suc (length ys)) - 1 ≡ suc (length (y ∷ ys) - 1) = omega arith in
    ap (λ n. take n (x ∷ y ∷ ys)) more ∙ ap (λ l. x ∷ l) (front_take (y ∷ ys))

pub live_more : {K : Type 0} (rows : List K) (gone : List Bool) (r : K) → length gone ≡ length rows → live (rows ++ r ∷ []) (gone ++ false ∷ []) ≡ live rows gone ++ r ∷ []
live_more [] [] r e = refl
live_more [] (m ∷ gone) r e = absurd (omega (arith, e))
live_more (x ∷ rows) [] r e = absurd (omega (arith, e))
live_more (x ∷ rows) (true ∷ gone) r e = live_more rows gone r (omega (arith, e))
live_more (x ∷ rows) (false ∷ gone) r e = ap (λ l. x ∷ l) (live_more rows gone r (omega (arith, e)))

-- the items where one is not gone, and where it is
pub live_gap : {K : Type 0} (rows : List K) (gone : List Bool) (i : ℕ) (d : K) → length gone ≡ length rows → i < length rows → get_or gone i false ≡ true
    → (xs : List K) × (ys : List K) × (live rows (set gone i false) ≡ xs ++ get_or rows i d ∷ ys) × (live rows gone ≡ xs ++ ys)
live_gap [] gone i d e low marked = absurd (omega (arith, low))
live_gap (x ∷ rows) [] i d e low marked = absurd (omega (arith, e))
live_gap (x ∷ rows) (true ∷ gone) zero d e low marked = ([], live rows gone, refl, refl)
live_gap (x ∷ rows) (false ∷ gone) zero d e low marked = absurd (true≢false (sym marked))
live_gap (x ∷ rows) (true ∷ gone) (suc i) d e low marked = live_gap rows gone i d (omega (arith, e)) (omega (arith, low)) marked
live_gap (x ∷ rows) (false ∷ gone) (suc i) d e low marked =
    let rest = live_gap rows gone i d (omega (arith, e)) (omega (arith, low)) marked in
    (x ∷ rest.0, rest.1, ap (λ l. x ∷ l) rest.2, ap (λ l. x ∷ l) rest.3)

pub any_live : {K : Type 0} (test : K → Bool) (rows : List K) (gone : List Bool) (i : ℕ) (d : K) → length gone ≡ length rows → i < length rows
    → get_or gone i true ≡ false → test (get_or rows i d) ≡ true → list_any test (live rows gone) ≡ true
any_live test [] gone i d e low is passes = absurd (omega (arith, low))
any_live test (x ∷ rows) [] i d e low is passes = absurd (omega (arith, e))
any_live test (x ∷ rows) (true ∷ gone) zero d e low is passes = absurd (true≢false is)
any_live test (x ∷ rows) (false ∷ gone) zero d e low is passes = rw passes refl
any_live test (x ∷ rows) (true ∷ gone) (suc i) d e low is passes = any_live test rows gone i d (omega (arith, e)) (omega (arith, low)) is passes
any_live test (x ∷ rows) (false ∷ gone) (suc i) d e low is passes = rw (any_live test rows gone i d (omega (arith, e)) (omega (arith, low)) is passes) (or_true (test x))
  where
    or_true : (b : Bool) → (b || true) ≡ true
    or_true true = refl
    or_true false = refl

pub none_live : {K : Type 0} (test : K → Bool) (rows : List K) (gone : List Bool) (d : K) → length gone ≡ length rows
    → ((i : ℕ) → i < length rows → (not (get_or gone i true) && test (get_or rows i d)) ≡ false) → list_any test (live rows gone) ≡ false
none_live test [] gone d e fail = refl
none_live test (x ∷ rows) [] d e fail = absurd (omega (arith, e))
none_live test (x ∷ rows) (true ∷ gone) d e fail = none_live test rows gone d (omega (arith, e)) (λ i low. fail (suc i) (omega (arith, low)))
none_live test (x ∷ rows) (false ∷ gone) d e fail =
    let rest = none_live test rows gone d (omega (arith, e)) (λ i low. fail (suc i) (omega (arith, low))) in
    let here : test x ≡ false = fail zero (omega arith) in
    rw (here, rest) refl

-- where no mark is set
pub live_all : {K : Type 0} (rows : List K) (gone : List Bool) → length gone ≡ length rows → ((i : ℕ) (d : Bool) → i < length rows → get_or gone i d ≡ false) → live rows gone ≡ rows
live_all [] gone e clear = refl
live_all (x ∷ rows) [] e clear = absurd (omega (arith, e))
live_all (x ∷ rows) (true ∷ gone) e clear = absurd (true≢false (clear zero true (omega arith)))
live_all (x ∷ rows) (false ∷ gone) e clear = ap (λ l. x ∷ l) (live_all rows gone (omega (arith, e)) (λ i d low. clear (suc i) d (omega (arith, low))))

-- a mark that is set and then cleared
pub set_back : (gone : List Bool) (i : ℕ) → get_or gone i true ≡ false → set (set gone i true) i false ≡ gone
set_back [] i is = refl
set_back (m ∷ gone) zero is = ap (λ b. b ∷ gone) (sym is)
set_back (m ∷ gone) (suc i) is = ap (λ l. m ∷ l) (set_back gone i is)

pub set_here : (gone : List Bool) (i : ℕ) → i < length gone → get_or (set gone i true) i false ≡ true
set_here [] i low = absurd (omega (arith, low))
set_here (m ∷ gone) zero low = refl
set_here (m ∷ gone) (suc i) low = set_here gone i (omega (arith, low))

-- ---- items that are alike

-- a test of one item more among others
pub any_gap : {K : Type 0} (test : K → Bool) (xs ys : List K) (r : K) → list_any test (xs ++ r ∷ ys) ≡ (test r || list_any test (xs ++ ys))
any_gap test [] ys r = refl
any_gap test (x ∷ xs) ys r = rw (any_gap test xs ys r) (turn (test x) (test r) (list_any test (xs ++ ys)))
  where
    turn : (a b c : Bool) → (a || (b || c)) ≡ (b || (a || c))
    turn true true c = refl
    turn true false c = refl
    turn false true c = refl
    turn false false c = refl

module _ {K : Type 0} (alike : K → K → Bool) (laws : IsEquivalence alike) where
  any_alike : (a b : K) (xs : List K) → alike a b ≡ true → list_any (alike a) xs ≡ list_any (alike b) xs
  any_alike a b [] e = refl
  any_alike a b (x ∷ xs) e = rw (laws.congr a b x e, any_alike a b xs e) refl

  -- one item more among others
  pub repeats_gap : (xs ys : List K) (r : K) → repeats alike (xs ++ r ∷ ys) ≡ cond (list_any (alike r) (xs ++ ys)) 1 0 + repeats alike (xs ++ ys)
  repeats_gap [] ys r = refl
  repeats_gap (x ∷ xs) ys r = rw (any_gap (alike x) xs ys r, laws.symm r x) (by (repeats_gap xs ys r) (alike x r) refl)
    where
      by : repeats alike (xs ++ r ∷ ys) ≡ cond (list_any (alike r) (xs ++ ys)) 1 0 + repeats alike (xs ++ ys) → (b : Bool) → alike x r ≡ b
          → cond (b || list_any (alike x) (xs ++ ys)) 1 0 + repeats alike (xs ++ r ∷ ys)
          ≡ cond (b || list_any (alike r) (xs ++ ys)) 1 0 + (cond (list_any (alike x) (xs ++ ys)) 1 0 + repeats alike (xs ++ ys))
      by ih true e = let same = any_alike x r (xs ++ ys) e in rw same (omega (arith, ih))
      by ih false e = omega (arith, ih)

  pub repeats_more : (xs : List K) (r : K) → repeats alike (xs ++ r ∷ []) ≡ cond (list_any (alike r) xs) 1 0 + repeats alike xs
  repeats_more xs r = subst (λ zs. repeats alike (xs ++ r ∷ []) ≡ cond (list_any (alike r) zs) 1 0 + repeats alike zs) (append_none xs) (repeats_gap xs [] r)

pub length_gap : {K : Type 0} (xs ys : List K) (r : K) → length (xs ++ r ∷ ys) ≡ suc (length (xs ++ ys))
length_gap xs ys r = omega (arith, length-append xs (r ∷ ys), length-append xs ys)
