-- A text with its quotes doubled, by its pieces between quotes.
use Rattle.std.proofs.Common.{◌≡◌, ℕ, ◌<◌, ◌+◌, Bool, true, false, cond, eqb, List, [], ◌∷◌, ◌++◌, length, get_or, drop, refl, sym, ap, ◌∙◌}
use Rattle.std.specs.List.{slice_split, onto_first}
use Rattle.std.proofs.lemmas.List.{at_drop_more}
use Rattle.td_tree.specs.model.TextTokens.{with_quotes_doubled}
use Rattle.td_tree.specs.code.Written.{quotes_if}

-- the pieces with two quotes between
abbrev pub joined : Bool → List (List ℕ) → List ℕ
joined later [] = []
joined later (p ∷ ps) = quotes_if later ++ p ++ joined true ps

abbrev pub is_quote : ℕ → Bool
is_quote b = eqb b 39

joined-onto : (b : ℕ) (ps : List (List ℕ)) → joined false (onto_first b ps) ≡ b ∷ joined false ps
joined-onto b [] = refl
joined-onto b (p ∷ ps) = refl

later_onto : (b : ℕ) (ps : List (List ℕ)) → joined true (onto_first b ps) ≡ 39 ∷ 39 ∷ joined false (onto_first b ps)
later_onto b [] = refl
later_onto b (p ∷ ps) = refl

joined-later : (bs : List ℕ) → joined true (slice_split is_quote bs) ≡ 39 ∷ 39 ∷ joined false (slice_split is_quote bs)
joined-later [] = refl
joined-later (b ∷ bs) =
    elim (is_quote b) as (λ q. joined true (cond q ([] ∷ slice_split is_quote bs) (onto_first b (slice_split is_quote bs))) ≡ 39 ∷ 39 ∷ joined false (cond q ([] ∷ slice_split is_quote bs) (onto_first b (slice_split is_quote bs))))
    [ true ↦ refl | false ↦ later_onto b (slice_split is_quote bs) ]

pub joined-split : (bs : List ℕ) → joined false (slice_split is_quote bs) ≡ with_quotes_doubled bs
joined-split [] = refl
joined-split (b ∷ bs) = by_test (joined-split bs) (is_quote b)
  where
    by_test : joined false (slice_split is_quote bs) ≡ with_quotes_doubled bs → (q : Bool)
        → joined false (cond q ([] ∷ slice_split is_quote bs) (onto_first b (slice_split is_quote bs))) ≡ cond q (39 ∷ 39 ∷ with_quotes_doubled bs) (b ∷ with_quotes_doubled bs)
    by_test rest true = joined-later bs ∙ ap (λ r. 39 ∷ 39 ∷ r) rest
    by_test rest false = joined-onto b (slice_split is_quote bs) ∙ ap (λ r. b ∷ r) rest

-- the pieces from one place on
pub joined-drop : (later : Bool) (ps : List (List ℕ)) (k : ℕ) (p : List ℕ) → (k < length ps) × (p ≡ get_or ps k p)
    → joined later (drop k ps) ≡ quotes_if later ++ p ++ joined true (drop (k + 1) ps)
joined-drop later ps k p h =
    at_drop_more (joined later) ps k p h.0 ∙ ap (λ q. quotes_if later ++ q ++ joined true (drop (k + 1) ps)) (sym h.1)
