-- What is skipped stays gone, as an index changes.
use Rattle.std.proofs.Common.{◌≡◌, ℕ, zero, suc, ◌<◌, Bool, true, false, List, [], ◌∷◌, ◌++◌, length, get_or, set, refl, sym, ap, ◌∙◌, arith, true≢false}
use Rattle.std.proofs.lemmas.List.{get_or-set_other}
use Rattle.td_body.specs.code.KeyIndexes.{AreGone}
use Rattle.td_body.specs.code.Numbered.{front}
use Rattle.td_body.proofs.Linked.{split_nat}

put_false : (xs : List Bool) (i : ℕ) → get_or (xs ++ false ∷ []) i false ≡ get_or xs i false
put_false [] zero = refl
put_false [] (suc i) = refl
put_false (x ∷ xs) zero = refl
put_false (x ∷ xs) (suc i) = put_false xs i

put_any : (xs : List Bool) (m : Bool) (i : ℕ) → get_or xs i false ≡ true → get_or (xs ++ m ∷ []) i false ≡ true
put_any [] m i e = absurd (true≢false (sym e))
put_any (x ∷ xs) m zero e = e
put_any (x ∷ xs) m (suc i) e = put_any xs m i e

-- one item more
pub put_marked : (skipped marks gone : List Bool) (m : Bool) → marks ≡ skipped ++ false ∷ [] → AreGone skipped gone → AreGone marks (gone ++ m ∷ [])
put_marked skipped marks gone m put x i e = put_any gone m i (x i (sym (put_false skipped i) ∙ ap (λ l. get_or l i false) (sym put) ∙ e))

front_low : (xs : List Bool) (i : ℕ) → get_or (front xs) i false ≡ true → suc i < length xs
front_low [] i e = absurd (true≢false (sym e))
front_low (x ∷ []) i e = absurd (true≢false (sym e))
front_low (x ∷ y ∷ ys) zero e = omega arith
front_low (x ∷ y ∷ ys) (suc i) e = let low = front_low (y ∷ ys) i e in omega (arith, low)

front_get : (xs : List Bool) (i : ℕ) → suc i < length xs → get_or (front xs) i false ≡ get_or xs i false
front_get [] i low = refl
front_get (x ∷ []) i low = absurd (omega (arith, low))
front_get (x ∷ y ∷ ys) zero low = refl
front_get (x ∷ y ∷ ys) (suc i) low = front_get (y ∷ ys) i (omega (arith, low))

-- one item less
pub front_marked : (skipped marks gone : List Bool) → length skipped ≡ length gone → marks ≡ front skipped → AreGone skipped gone → AreGone marks (front gone)
front_marked skipped marks gone same is x i e =
    let there : get_or (front skipped) i false ≡ true = ap (λ l. get_or l i false) (sym is) ∙ e in
    let low = front_low skipped i there in
    front_get gone i (omega (arith, low, same)) ∙ x i (sym (front_get skipped i low) ∙ there)

-- an item that is gone is skipped
pub skip_marked : (skipped gone : List Bool) (number : ℕ) → get_or gone number false ≡ true → AreGone skipped gone → AreGone (set skipped number true) gone
skip_marked skipped gone number there x i e = split_nat i number
    (λ same _. ap (λ k. get_or gone k false) same ∙ there)
    (λ other _. x i (sym (get_or-set_other skipped number i true false other) ∙ e))
