-- The symbols of UTF-8 are its characters.
use Rattle.std.proofs.Common.{◌≡◌, ℕ, ◌<◌, List, [], ◌∷◌, ◌++◌, length, refl, sym, ap, ◌∙◌, arith, drop, Bool, true, false, Some, IsUtf8, ◌&&◌, map, length-append, append-nil, append_assoc}
use Rattle.std.specs.Str.{chars}
use Rattle.std.proofs.Math.Utf8.{encode, encodes, scalars}
use lib.Utf8.{scalar as is_scalar}
use Rattle.std.proofs.lemmas.List.{drop_at, take_at}
use Rattle.std.proofs.lemmas.Str.{encodes-chars, scalars-chars, length-encode, len_utf8_bounds}
use Rattle.td_tree.specs.laws.Spellings.{characters}
use Rattle.td_tree.specs.model.Symbols.{Symbol, symbols}
use Rattle.td_tree.proofs.law_lemmas.DecodeLaws.{front_of_character, character_found}
use Rattle.td_tree.proofs.law_lemmas.SymbolLaws.{front_some}

pub both : (a b : Bool) → (a && b) ≡ true → (a ≡ true) × (b ≡ true)
both true b e = (refl, e)
both false b e = absurd cc

abbrev symbol : ℕ → Symbol
symbol c = record { character = Some c; text = encode c }

-- a character at the front is a symbol
first_symbol : (c : ℕ) (rest : List ℕ) → is_scalar c ≡ true → symbols (encode c ++ rest) ≡ symbol c ∷ symbols rest
first_symbol c rest scalar =
    let size : ℕ = length (encode c) in
    front_some (encode c ++ rest) c size some_bytes (character_found c rest scalar) (ap length (sym (front_of_character c rest)))
    ∙ ap (λ bs. with_text bs ∷ symbols (drop size (encode c ++ rest))) (take_at (encode c) rest size refl)
    ∙ ap (λ bs. symbol c ∷ symbols bs) (drop_at (encode c) rest size refl)
  where
    with_text : List ℕ → Symbol
    with_text bs = record { character = Some c; text = bs }

    some_bytes : 0 < length (encode c ++ rest)
    some_bytes = omega (arith, length-encode c, (len_utf8_bounds c).0, length-append (encode c) rest)

symbols_encoded : (cs rest : List ℕ) → scalars cs ≡ true → symbols (encodes cs ++ rest) ≡ map symbol cs ++ symbols rest
symbols_encoded [] rest valid = refl
symbols_encoded (c ∷ cs) rest valid =
    let v = both (is_scalar c) (scalars cs) valid in
    ap symbols (append_assoc (encode c) (encodes cs) rest)
    ∙ first_symbol c (encodes cs ++ rest) v.0
    ∙ ap (λ r. symbol c ∷ r) (symbols_encoded cs rest v.1)

-- the symbols of UTF-8 don't depend on what follows
pub symbols-append_utf8 : (t rest : List ℕ) → IsUtf8 t → symbols (t ++ rest) ≡ symbols t ++ symbols rest
symbols-append_utf8 t rest utf8 =
    let cs : List ℕ = chars t in
    let valid = scalars-chars t utf8 in
    let alone : symbols t ≡ map symbol cs =
    ap symbols (sym (encodes-chars t utf8) ∙ sym (append-nil (encodes cs))) ∙ symbols_encoded cs [] valid ∙ append-nil (map symbol cs) in
    ap (λ bs. symbols (bs ++ rest)) (sym (encodes-chars t utf8)) ∙ symbols_encoded cs rest valid ∙ ap (λ r. r ++ symbols rest) (sym alone)

characters_encoded : (cs : List ℕ) → scalars cs ≡ true → characters (symbols (encodes cs)) ≡ map Some cs
characters_encoded [] valid = refl
characters_encoded (c ∷ cs) valid =
    let v = both (is_scalar c) (scalars cs) valid in
    ap characters (first_symbol c (encodes cs) v.0) ∙ ap (λ r. Some c ∷ r) (characters_encoded cs v.1)

-- the symbols of UTF-8 are its characters
pub characters_are : (t : List ℕ) → IsUtf8 t → characters (symbols t) ≡ map Some (chars t)
characters_are t utf8 = ap (λ bs. characters (symbols bs)) (sym (encodes-chars t utf8)) ∙ characters_encoded (chars t) (scalars-chars t utf8)
