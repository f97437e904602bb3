-- The symbols of bytes.
use Rattle.std.proofs.Common.{◌≡◌, ℕ, zero, suc, ◌-◌, ◌≤◌, ◌<◌, List, [], ◌∷◌, ◌++◌, length, take, drop, refl, sym, ap, ◌∙◌, arith, false, Option, Some, None, ⊎_elim}
use Rattle.std.specs.Prelude.{if◌then◌else◌, slice_get, slice_index}
use Rattle.std.specs.Str.{is_utf8, chars, continuation_len}
use Rattle.std.proofs.lemmas.List.{take-append-le, length-take, take_all}
use Rattle.std.proofs.str.Laws.{order}
use Rattle.td_tree.specs.model.Symbols.{front_char, front_bytes, Symbol, symbol_of, symbol_at, symbols_from, symbols}
use Rattle.td_tree.proofs.law_lemmas.FrontLaws.{part_is_none, past_ascii_is_none, ascii_char, ascii_bytes}

pub skipped : (n : ℕ) (bs : List ℕ) → symbols_from n bs ≡ symbols (drop n bs)
skipped zero bs = refl
skipped (suc n) [] = refl
skipped (suc n) (b ∷ bs) = skipped n bs

-- the symbol at the front, and those of the rest: how the code goes on
pub symbols_step : (b : ℕ) (bs : List ℕ) → symbols (b ∷ bs) ≡ symbol_at b bs ∷ symbols (drop (length (symbol_at b bs).text - 1) bs)
symbols_step b bs = ap (λ s. symbol_at b bs ∷ s) (skipped (length (symbol_at b bs).text - 1) bs)

-- ---- the symbols before an ASCII byte don't depend on it

none_from : (bs : List ℕ) → is_utf8 (front_bytes bs) ≡ false → front_char bs ≡ None
none_from bs e = ap (λ v. if v then slice_get (chars (front_bytes bs)) 0 else None) e

-- past the ASCII byte
take_past : (n : ℕ) (xs ys : List ℕ) (a : ℕ) → length xs < n → (zs : List ℕ) × (take n (xs ++ a ∷ ys) ≡ xs ++ a ∷ zs)
take_past zero xs ys a less = absurd (omega arith)
take_past (suc n) [] ys a less = (take n ys, refl)
take_past (suc n) (x ∷ xs) ys a less = let rest = take_past n xs ys a (omega arith) in (rest.0, ap (λ r. x ∷ r) rest.1)

pub same_symbol : (b : ℕ) (xs ys : List ℕ) (a : ℕ) → a < 128 → symbol_at b (xs ++ a ∷ ys) ≡ symbol_at b xs
same_symbol b xs ys a ascii =
    ⊎_elim
    (λ less.
    let past = take_past (continuation_len b) xs ys a less in
    let one : front_char (b ∷ xs ++ a ∷ ys) ≡ None = none_from ((b ∷ xs) ++ a ∷ ys) (ap (λ t. is_utf8 (b ∷ t)) past.1 ∙ past_ascii_is_none b xs past.0 a ascii less) in
    let two : front_char (b ∷ xs) ≡ None = none_from (b ∷ xs) (ap (λ t. is_utf8 (b ∷ t)) (take_all (continuation_len b) xs (omega arith)) ∙ part_is_none b xs less) in
    ap (λ o. symbol_of o (front_bytes ((b ∷ xs) ++ a ∷ ys)) b) one ∙ sym (ap (λ o. symbol_of o (front_bytes (b ∷ xs)) b) two))
    (λ enough.
    let same : front_bytes ((b ∷ xs) ++ a ∷ ys) ≡ front_bytes (b ∷ xs) = take-append-le (suc (continuation_len b)) (b ∷ xs) (a ∷ ys) (omega arith) in
    ap (λ t. symbol_of (if is_utf8 t then slice_get (chars t) 0 else None) t b) same)
    (order (length xs) (continuation_len b))

-- a symbol's bytes are a front of the bytes
text_within : (b : ℕ) (bs : List ℕ) → length (symbol_at b bs).text - 1 ≤ length bs
text_within b bs =
    elim (front_char (b ∷ bs)) as (λ o. length (symbol_of o (front_bytes (b ∷ bs)) b).text - 1 ≤ length bs) [
      | Some c ↦ omega (arith, length-take (suc (continuation_len b)) (b ∷ bs))
      | None ↦ omega arith
    ]

pub symbols-append_ascii : (left : ℕ) (xs ys : List ℕ) (a : ℕ) → a < 128 → left ≤ length xs → symbols_from left (xs ++ a ∷ ys) ≡ symbols_from left xs ++ symbols (a ∷ ys)
symbols-append_ascii zero [] ys a ascii low = refl
symbols-append_ascii (suc left) [] ys a ascii low = absurd (omega arith)
symbols-append_ascii (suc left) (b ∷ xs) ys a ascii low = symbols-append_ascii left xs ys a ascii (omega arith)
symbols-append_ascii zero (b ∷ xs) ys a ascii low =
    ap (λ s. s ∷ symbols_from (length s.text - 1) (xs ++ a ∷ ys)) (same_symbol b xs ys a ascii)
    ∙ ap (λ r. symbol_at b xs ∷ r) (symbols-append_ascii (length (symbol_at b xs).text - 1) xs ys a ascii (text_within b xs))

abbrev symbol : Option ℕ → List ℕ → Symbol
symbol character text = record { character = character; text = text }

-- taking as many as were taken
take_again : (n : ℕ) (bs : List ℕ) → take (length (take n bs)) bs ≡ take n bs
take_again zero bs = refl
take_again (suc n) [] = refl
take_again (suc n) (b ∷ bs) = ap (λ r. b ∷ r) (take_again n bs)

pub front_some : (bs : List ℕ) (c size : ℕ) → 0 < length bs → front_char bs ≡ Some c → size ≡ length (front_bytes bs) → symbols bs ≡ symbol (Some c) (take size bs) ∷ symbols (drop size bs)
front_some [] c size some is long = absurd (omega arith)
front_some (b ∷ bs) c size some is long =
    let n = continuation_len b in
    let at : symbol_at b bs ≡ symbol (Some c) (b ∷ take n bs) = ap (λ o. symbol_of o (front_bytes (b ∷ bs)) b) is in
    let same : size - 1 ≡ length (take n bs) = omega (arith, long) in
    let whole : size ≡ suc (length (take n bs)) = long in
    symbols_step b bs ∙ ap (λ s. s ∷ symbols (drop (length s.text - 1) bs)) at
    ∙ (let one : suc (length (take n bs)) - 1 ≡ length (take n bs) = omega arith in ap (λ k. symbol (Some c) (b ∷ take n bs) ∷ symbols (drop k bs)) one)
    ∙ ap (λ t. symbol (Some c) (b ∷ t) ∷ symbols (drop (length (take n bs)) bs)) (sym (take_again n bs))
    ∙ ap (λ k. symbol (Some c) (take k (b ∷ bs)) ∷ symbols (drop k (b ∷ bs))) (sym whole)

pub front_none : (bs : List ℕ) → 0 < length bs → front_char bs ≡ None → symbols bs ≡ symbol None (take 1 bs) ∷ symbols (drop 1 bs)
front_none [] some is = absurd (omega arith)
front_none (b ∷ bs) some is =
    let at : symbol_at b bs ≡ symbol None (b ∷ []) = ap (λ o. symbol_of o (front_bytes (b ∷ bs)) b) is in
    symbols_step b bs ∙ ap (λ s. s ∷ symbols (drop (length s.text - 1) bs)) at

-- an ASCII byte is a symbol
pub front_ascii : (bs : List ℕ) → 0 < length bs → slice_index bs 0 < 128 → symbols bs ≡ symbol (Some (slice_index bs 0)) (take 1 bs) ∷ symbols (drop 1 bs)
front_ascii [] some ascii = absurd (omega arith)
front_ascii (b ∷ bs) some ascii = front_some (b ∷ bs) b 1 some (ascii_char b bs ascii) (sym (ap length (ascii_bytes b bs ascii)))
