-- The tokens and statements of bytes: what is taken off the front leaves those of the rest.
use Rattle.std.proofs.Common.{◌≡◌, ℕ, ◌+◌, List, [], ◌∷◌, ◌++◌, length, refl, sym, ap, ◌∙◌, arith, Bool, true, false, Option, Some, None, if◌then◌else◌, append_assoc, ⊎_elim}
use Rattle.std.specs.Prelude.{option_map}
use Rattle.td_tree.specs.declared.token.Kind.{Kind}
use Rattle.td_tree.specs.model.Division.{up_to}
use Rattle.td_tree.specs.model.Pieces.{kind_of}
use Rattle.td_tree.specs.model.Statements.{PlacedToken, token_of, tokens_from, is_end, ends, put, split}
use Rattle.td_tree.specs.model.Symbols.{Symbol, spell}
use Rattle.td_tree.proofs.law_lemmas.EndLaws.{up_to_cases}
use Rattle.td_tree.proofs.law_lemmas.PieceLaws.{size, size-cons}

-- ---- ends of pieces and of tokens

abbrev pub is_end_of : Option Kind → Bool
is_end_of None = false
is_end_of (Some kind) = is_end kind

-- a piece that ends a statement
abbrev pub ends_piece : List Symbol → Bool
ends_piece p = is_end_of (kind_of p)

found_more : (o : Option Kind) (at : ℕ) (text : List ℕ) (p : List Symbol) (rest : List PlacedToken) (ps : List (List Symbol)) (found : Option (List (List Symbol)))
    → up_to ends rest ≡ option_map (tokens_from (at + length text)) found
    → kind_of p ≡ o → spell p ≡ text
    → up_to ends (token_of o at text ++ rest) ≡ option_map (tokens_from at) (if is_end_of o then Some (p ∷ []) else option_map (λ qs. p ∷ qs) found)
found_more None at text p rest ps None same is spelled = same
found_more None at text p rest ps (Some qs) same is spelled = same ∙ sym (rw (is, spelled) refl)
found_more (Some kind) at text p rest ps found same is spelled =
    let token : PlacedToken = record { kind = kind; text = text; start = at; stop = at + length text } in
    elim (is_end kind) as (λ b. (if b then Some (token ∷ []) else option_map (λ qs. token ∷ qs) (up_to ends rest)) ≡ option_map (tokens_from at) (if b then Some (p ∷ []) else option_map (λ qs. p ∷ qs) found)) [
      | true ↦ sym (rw (is, spelled) refl)
      | false ↦ (elim found as (λ f. up_to ends rest ≡ option_map (tokens_from (at + length text)) f → option_map (λ qs. token ∷ qs) (up_to ends rest) ≡ option_map (tokens_from at) (option_map (λ qs. p ∷ qs) f)) [
        | None ↦ λ e. ap (option_map (λ qs. token ∷ qs)) e
        | Some qs ↦ λ e. ap (option_map (λ qs. token ∷ qs)) e ∙ sym (rw (is, spelled) refl)
      ]) same
    ]

-- the first `;` among the tokens is that among the pieces
pub up_to_tokens : (at : ℕ) (ps : List (List Symbol)) → up_to ends (tokens_from at ps) ≡ option_map (tokens_from at) (up_to ends_piece ps)
up_to_tokens at [] = refl
up_to_tokens at (p ∷ ps) = found_more (kind_of p) at (spell p) p (tokens_from (at + length (spell p)) ps) ps (up_to ends_piece ps) (up_to_tokens (at + length (spell p)) ps) refl refl

pub tokens-append : (at : ℕ) (ps qs : List (List Symbol)) → tokens_from at (ps ++ qs) ≡ tokens_from at ps ++ tokens_from (at + size ps) qs
tokens-append at [] qs = ap (λ n. tokens_from n qs) (omega arith)
tokens-append at (p ∷ ps) qs =
    let text = spell p in
    ap (λ r. token_of (kind_of p) at text ++ r) (tokens-append (at + length text) ps qs)
    ∙ sym (append_assoc (token_of (kind_of p) at text) (tokens_from (at + length text) ps) (tokens_from (at + length text + size ps) qs))
    ∙ ap (λ n. (token_of (kind_of p) at text ++ tokens_from (at + length text) ps) ++ tokens_from n qs) (omega (arith, size-cons p ps))

-- ---- splits

-- what is found up to an end, and what follows it
pub split_first : {X : Type 0} (ends : X → Bool) (xs first : List X) → up_to ends xs ≡ Some first → (rest : List X) × (xs ≡ first ++ rest)
split_first ends [] first found = absurd cc
split_first ends (x ∷ xs) first found = ⊎_elim
    (λ e. (xs, ap (λ f. f ++ xs) (sym e.one)))
    (λ l. let w = split_first ends xs l.inner l.found in (w.0, ap (λ r. x ∷ r) w.1 ∙ ap (λ f. f ++ w.0) (sym l.more)))
    (up_to_cases ends x xs first found)

-- a statement that `;` ends, and those of what follows it
pub split-first : (ts first rest : List PlacedToken) → up_to ends ts ≡ Some first → ts ≡ first ++ rest → split ts ≡ first ∷ split rest
split-first [] first rest found parts = absurd cc
split-first (t ∷ ts) first rest found parts = ⊎_elim
    (λ e.
    let all : t ∷ ts ≡ t ∷ rest = parts ∙ ap (λ f. f ++ rest) e.one in
    let same : ts ≡ rest = cc in
    ap (λ b. if b then (t ∷ []) ∷ split ts else put t (split ts)) e.yes ∙ ap (λ r. (t ∷ []) ∷ split r) same ∙ ap (λ f. f ∷ split rest) (sym e.one))
    (λ l.
    let all : t ∷ ts ≡ t ∷ (l.inner ++ rest) = parts ∙ ap (λ f. f ++ rest) l.more in
    let same : ts ≡ l.inner ++ rest = cc in
    ap (λ b. if b then (t ∷ []) ∷ split ts else put t (split ts)) l.no ∙ ap (put t) (split-first ts l.inner rest l.found same) ∙ ap (λ f. f ∷ split rest) (sym l.more))
    (up_to_cases ends t ts first found)

-- the tokens left are one statement, if there are any
abbrev pub left : List PlacedToken → List (List PlacedToken)
left [] = []
left (t ∷ ts) = (t ∷ ts) ∷ []

put-left : (t : PlacedToken) (ts : List PlacedToken) → put t (left ts) ≡ (t ∷ ts) ∷ []
put-left t [] = refl
put-left t (u ∷ ts) = refl

pub split-left : (ts : List PlacedToken) → up_to ends ts ≡ None → split ts ≡ left ts
split-left [] = λ none. refl
split-left (t ∷ ts) =
    elim (ends t) as (λ b. (if b then Some (t ∷ []) else option_map (λ qs. t ∷ qs) (up_to ends ts)) ≡ None → (if b then (t ∷ []) ∷ split ts else put t (split ts)) ≡ (t ∷ ts) ∷ []) [
      | true ↦ λ none. absurd cc
      | false ↦ (elim (up_to ends ts) as (λ o. up_to ends ts ≡ o → option_map (λ qs. t ∷ qs) o ≡ None → put t (split ts) ≡ (t ∷ ts) ∷ []) [
        | None ↦ λ is none. ap (put t) (split-left ts is) ∙ put-left t ts
        | Some qs ↦ λ is none. absurd cc
      ]) refl
    ]
