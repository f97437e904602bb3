-- Lexemes as they are written.
use Rattle.std.proofs.Common.{◌≡◌, ℕ, ◌+◌, ◌-◌, ◌<◌, ◌≤◌, Bool, true, false, List, [], ◌∷◌, ◌++◌, refl, sym, ap, subst, ◌∙◌, append_assoc, append-nil, length, get_or, take, drop, arith, length-append, IfOk, Result, Ok, Err}
use Rattle.std.proofs.Math.Seq.{get_or-append_seam, take-append_seam}
use Rattle.std.proofs.lemmas.Grind.{flat_map-append}
use Rattle.std.proofs.lemmas.List.{at_drop_more}
use Rattle.td_tree.specs.model.Lexemes.{Lexeme, printed_text, spaced_text}
use Rattle.td_tree.specs.model.Prints.{commas, following}
use Rattle.td_tree.specs.code.Written.{comma_lexeme_if, written_text}

-- items that come first, or after others
abbrev pub listed : Bool → List (List Lexeme) → List Lexeme
listed true items = following items
listed false items = commas items

-- with a space behind each lexeme there is one behind them all
spaced_written : (l : Lexeme) (ls : List Lexeme) → written_text (l ∷ ls) ≡ spaced_text (l ∷ ls) ++ (32 ∷ [])
spaced_written l [] = append-nil (printed_text l ++ (32 ∷ []))
spaced_written l (m ∷ ls) =
    append_assoc (printed_text l) (32 ∷ []) (written_text (m ∷ ls)) ∙ ap (λ w. printed_text l ++ (32 ∷ w)) (spaced_written m ls)
    ∙ sym (append_assoc (printed_text l) (32 ∷ spaced_text (m ∷ ls)) (32 ∷ []))

without_last : (xs new : List ℕ) → (0 < length (xs ++ (32 ∷ [])) → get_or (xs ++ (32 ∷ [])) (length (xs ++ (32 ∷ [])) - 1) 0 < 128 → new ≡ take (length (xs ++ (32 ∷ [])) - 1) (xs ++ (32 ∷ []))) → new ≡ xs
without_last xs new pop =
    let at : length (xs ++ (32 ∷ [])) - 1 ≡ length xs = omega (arith, length-append xs (32 ∷ [])) in
    let last : get_or (xs ++ (32 ∷ [])) (length (xs ++ (32 ∷ [])) - 1) 0 ≡ 32 = ap (λ n. get_or (xs ++ (32 ∷ [])) n 0) at ∙ get_or-append_seam xs 32 [] 0 in
    pop (omega (arith, length-append xs (32 ∷ []))) (omega (arith, last)) ∙ ap (λ n. take n (xs ++ (32 ∷ []))) at ∙ take-append_seam xs (32 ∷ [])

nothing : (xs : List ℕ) → length xs ≤ 0 → xs ≡ []
nothing [] h = refl
nothing (x ∷ xs) h = absurd (omega arith)

-- what is left of the text once its last space is taken off
pub popped : (ls : List Lexeme) (new : List ℕ)
    → (0 < length (written_text ls) → get_or (written_text ls) (length (written_text ls) - 1) 0 < 128 → new ≡ take (length (written_text ls) - 1) (written_text ls))
    → length new ≤ length (written_text ls) → new ≡ spaced_text ls
popped [] new pop bound = nothing new bound
popped (l ∷ ls) new pop bound =
    without_last (spaced_text (l ∷ ls)) new
    (subst (λ w. 0 < length w → get_or w (length w - 1) 0 < 128 → new ≡ take (length w - 1) w) (spaced_written l ls) pop)

written_append : (xs ys : List Lexeme) → written_text (xs ++ ys) ≡ written_text xs ++ written_text ys
written_append xs ys = flat_map-append _ xs ys

-- what one call put, and then another
pub both_put : (old mid new : List ℕ) (xs ys : List Lexeme) → mid ≡ old ++ written_text xs → new ≡ mid ++ written_text ys → new ≡ old ++ written_text (xs ++ ys)
both_put old mid new xs ys first last =
    last ∙ ap (λ m. m ++ written_text ys) first ∙ append_assoc old (written_text xs) (written_text ys) ∙ ap (λ w. old ++ w) (sym (written_append xs ys))

-- what is put before, and by the last call
pub last_put : {E : Type 0} (r : Result (List ℕ) E) (old mid : List ℕ) (xs ys zs : List Lexeme) → xs ++ ys ≡ zs
    → mid ≡ old ++ written_text xs → IfOk r (λ out. out ≡ mid ++ written_text ys) → IfOk r (λ out. out ≡ old ++ written_text zs)
last_put (Ok new) old mid xs ys zs e first last = both_put old mid new xs ys first last ∙ ap (λ w. old ++ written_text w) e
last_put (Err _) old mid xs ys zs e first last = tt

-- the same of a string and its length
pub popped_text : (ls : List Lexeme) (old new : List ℕ) (n m : ℕ) → n ≡ length old → m ≡ length new → old ≡ written_text ls
    → (0 < n → get_or old (n - 1) 0 < 128 → new ≡ take (n - 1) old) → m ≤ n → new ≡ spaced_text ls
popped_text ls old new n m old_length new_length all pop bound =
    popped ls new
    (subst (λ w. 0 < length w → get_or w (length w - 1) 0 < 128 → new ≡ take (length w - 1) w) all
    (subst (λ k. 0 < k → get_or old (k - 1) 0 < 128 → new ≡ take (k - 1) old) old_length pop))
    (omega (arith, ap length all))

listed_more : (later : Bool) (item : List Lexeme) (items : List (List Lexeme)) → (comma_lexeme_if later ++ item) ++ following items ≡ listed later (item ∷ items)
listed_more true item items = refl
listed_more false item items = refl

-- one more item of those that g gives
pub item_put : {X : Type 0} (g : List X → List (List Lexeme)) (part : X → List Lexeme) → ((x : X) (r : List X) → g (x ∷ r) ≡ part x ∷ g r)
    → (xs : List X) (i : ℕ) (x : X) (out new all : List ℕ) (later : Bool) → i < length xs → x ≡ get_or xs i x → new ≡ out ++ written_text (comma_lexeme_if later ++ part x)
    → out ++ written_text (listed later (g (drop i xs))) ≡ all → new ++ written_text (listed true (g (drop (i + 1) xs))) ≡ all
item_put g part parts xs i x out new all later inside is put left =
    let rest : List (List Lexeme) = g (drop (i + 1) xs) in
    let here : g (drop i xs) ≡ part x ∷ rest = at_drop_more g xs i x inside ∙ ap (λ y. g (y ∷ drop (i + 1) xs)) (sym is) ∙ parts x (drop (i + 1) xs) in
    both_put out new (new ++ written_text (following rest)) (comma_lexeme_if later ++ part x) (following rest) put refl
    ∙ ap (λ w. out ++ written_text w) (listed_more later (part x) rest) ∙ ap (λ w. out ++ written_text (listed later w)) (sym here) ∙ left
