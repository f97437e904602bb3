-- What texts in quotes are, in the language's own words.
use Rattle.std.proofs.Common.{◌≡◌, ℕ, List, [], ◌∷◌, ◌++◌, refl, sym, ap, ◌∙◌, subst, true, false, Option, Some, None, if◌then◌else◌, ◌⊎◌, inl, inr}
use Rattle.td_tree.specs.declared.piece.Piece.{Piece}
use Rattle.td_tree.specs.declared.piece.Piece.TheVariants.{OpenText, Text}
use Rattle.td_tree.specs.model.Pieces.{opens, goes_on, is_character}
use Rattle.td_tree.specs.laws.Spellings.{quote, quotes_doubled, IsOpenText, IsText, IsSpelled}
use Rattle.td_tree.proofs.law_lemmas.DivisionLaws.{run-append}
use Rattle.td_tree.proofs.law_lemmas.RunLaws.{run, spelled_state, same_character}

through_doubled : (said : List (Option ℕ)) → run (Some OpenText) (quotes_doubled said) ≡ Some OpenText
unfolding goes_on
through_doubled [] = refl
through_doubled (c ∷ cs) =
    (elim (is_character 39 c) as (λ b. is_character 39 c ≡ b → run (Some OpenText) (if b then quote ++ (quote ++ quotes_doubled cs) else c ∷ quotes_doubled cs) ≡ Some OpenText) [
      | true ↦ λ e. through_doubled cs
      | false ↦ λ e. ap (λ b. run (Some (if b then Text else OpenText)) (quotes_doubled cs)) e ∙ through_doubled cs
    ]) refl

begun : (cs : List (Option ℕ)) → spelled_state (quote ++ cs) ≡ run (Some OpenText) cs
unfolding opens
begun cs = refl

pub open_text_state : (cs : List (Option ℕ)) → IsOpenText cs → spelled_state cs ≡ Some OpenText
open_text_state cs h = ap spelled_state h.is ∙ begun (quotes_doubled h.said) ∙ through_doubled h.said

last_quote : run (Some OpenText) quote ≡ Some Text
unfolding goes_on
last_quote = refl

pub text_state : (cs : List (Option ℕ)) → IsText cs → spelled_state cs ≡ Some Text
text_state cs h =
    ap spelled_state h.is ∙ begun (quotes_doubled h.said ++ quote)
    ∙ run-append opens goes_on (Some OpenText) (quotes_doubled h.said) quote ∙ ap (λ o. run o quote) (through_doubled h.said) ∙ last_quote

-- what the machine has read behind a quote
Read : Piece → List (Option ℕ) → Type 0
Read v cs = ((v ≡ OpenText) × (said : List (Option ℕ)) × (cs ≡ quotes_doubled said)) ⊎ ((v ≡ Text) × (said : List (Option ℕ)) × (cs ≡ quotes_doubled said ++ quote))

read_other : (c : Option ℕ) (cs : List (Option ℕ)) (v : Piece) → is_character 39 c ≡ false → Read v cs → Read v (c ∷ cs)
unfolding Read
read_other c cs v e (inl w) = inl (w.0, c ∷ w.1, ap (λ r. c ∷ r) w.2 ∙ ap (λ b. if b then quote ++ (quote ++ quotes_doubled w.1) else c ∷ quotes_doubled w.1) (sym e))
read_other c cs v e (inr w) = inr (w.0, c ∷ w.1, ap (λ r. c ∷ r) w.2 ∙ ap (λ b. (if b then quote ++ (quote ++ quotes_doubled w.1) else c ∷ quotes_doubled w.1) ++ quote) (sym e))

read_quotes : (cs : List (Option ℕ)) (v : Piece) → Read v cs → Read v (quote ++ (quote ++ cs))
unfolding Read
read_quotes cs v (inl w) = inl (w.0, Some 39 ∷ w.1, ap (λ r. quote ++ (quote ++ r)) w.2)
read_quotes cs v (inr w) = inr (w.0, Some 39 ∷ w.1, ap (λ r. quote ++ (quote ++ r)) w.2)

read_all : (cs : List (Option ℕ)) (v : Piece) → run (Some OpenText) cs ≡ Some v → Read v cs
unfolding goes_on Read
read_all [] v = λ e. inl ((let same : OpenText ≡ v = cc in sym same), [], refl)
read_all (c ∷ []) v =
    (elim (is_character 39 c) as (λ b. is_character 39 c ≡ b → run (Some (if b then Text else OpenText)) [] ≡ Some v → Read v (c ∷ [])) [
      | true ↦ λ is e. inr ((let same : Text ≡ v = cc in sym same), [], ap (λ d. d ∷ []) (same_character 39 c is))
      | false ↦ λ is e. read_other c [] v is (read_all [] v e)
    ]) refl
read_all (c ∷ d ∷ cs) v =
    (elim (is_character 39 c) as (λ b. is_character 39 c ≡ b → run (Some (if b then Text else OpenText)) (d ∷ cs) ≡ Some v → Read v (c ∷ d ∷ cs)) [
      | true ↦ λ is. (elim (is_character 39 d) as (λ b. is_character 39 d ≡ b → run (if b then Some OpenText else None) cs ≡ Some v → Read v (c ∷ d ∷ cs)) [
        | true ↦ λ also e. subst (Read v) (let one : c ≡ Some 39 = same_character 39 c is in let two : d ≡ Some 39 = same_character 39 d also in cc) (read_quotes cs v (read_all cs v e))
        | false ↦ λ also e. absurd cc
      ]) refl
      | false ↦ λ is e. read_other c (d ∷ cs) v is (read_all (d ∷ cs) v e)
    ]) refl

spelled_so : (v : Piece) (cs : List (Option ℕ)) → Read v cs → IsSpelled v (quote ++ cs)
unfolding Read
spelled_so v cs (inl w) = subst (λ p. IsSpelled p (quote ++ cs)) (sym w.0) (let begun_text : IsOpenText (quote ++ cs) = record { said = w.1; is = ap (λ r. quote ++ r) w.2 } in begun_text)
spelled_so v cs (inr w) = subst (λ p. IsSpelled p (quote ++ cs)) (sym w.0) (let text : IsText (quote ++ cs) = record { said = w.1; is = ap (λ r. quote ++ r) w.2 } in text)

-- what the machine leaves so behind a quote is spelled so
pub text_is : (v : Piece) (cs : List (Option ℕ)) → run (Some OpenText) cs ≡ Some v → IsSpelled v (quote ++ cs)
text_is v cs e = spelled_so v cs (read_all cs v e)
