-- The symbols of bytes are their characters, and the bytes at which none begins.
use Rattle.std.proofs.Common.{◌≡◌, ℕ, zero, suc, ◌+◌, ◌-◌, ◌/◌, ◌<◌, ◌≤◌, List, [], ◌∷◌, ◌++◌, length, take, drop, refl, sym, ap, ◌∙◌, subst, arith, Bool, true, false, Some, None, cond, if◌then◌else◌, append-nil, ltb, lt-ltb, le-ltb, ltb-true, IsUtf8, ◌&&◌}
use Rattle.std.specs.Prelude.{slice_get, slice_index}
use Rattle.std.specs.Str.{is_utf8, chars, continuation_len}
use Rattle.std.proofs.Math.Utf8.{encode, encodes, scalars}
use lib.Utf8.{next, scalar as is_scalar}
use Rattle.std.specs.Char.{IsScalar}
use Rattle.std.proofs.lemmas.Str.{is_utf8-from_IsUtf8, IsUtf8-from_is_utf8, IsUtf8-encode, chars-encodes, encodes-chars, scalars-chars}
use Rattle.std.proofs.lemmas.List.{take_at}
use Rattle.td_tree.proofs.code_lemmas.StableBytes.{cuts}
use Rattle.td_tree.specs.laws.TokenLaws.{IsFront, AreSymbols}
use Rattle.td_tree.specs.model.Symbols.{front_bytes, front_char, symbol_of, symbol_at, symbols_from, symbols}

both : (a b : Bool) → (a && b) ≡ true → (a ≡ true) × (b ≡ true)
both true b e = (refl, e)
both false b e = absurd cc

one_byte : (b : ℕ) → b < 128 → continuation_len b ≡ 0
one_byte b less = rw (lt-ltb b 128 less) refl

two_bytes : (b : ℕ) → 128 ≤ b → b < 224 → continuation_len b ≡ 1
two_bytes b low less = rw (le-ltb b 128 low, lt-ltb b 224 less) refl

three_bytes : (b : ℕ) → 224 ≤ b → b < 240 → continuation_len b ≡ 2
three_bytes b low less = rw (le-ltb b 128 (omega arith), le-ltb b 224 low, lt-ltb b 240 less) refl

four_bytes : (b : ℕ) → 240 ≤ b → continuation_len b ≡ 3
four_bytes b low = rw (le-ltb b 128 (omega arith), le-ltb b 224 (omega arith), le-ltb b 240 low) refl

-- the first byte of a character says how many there are
lead_says : (c : ℕ) (rest : List ℕ) → suc (continuation_len (slice_index (encode c ++ rest) 0)) ≡ length (encode c)
unfolding encode
lead_says c rest =
    (elim (ltb c 128) as (λ t. ltb c 128 ≡ t → (let text : List ℕ = cond t (c ∷ []) (cond (ltb c 2048) ((192 + c / 64) ∷ next c ∷ []) (cond (ltb c 65536) ((224 + c / 4096) ∷ next (c / 64) ∷ next c ∷ []) ((240 + c / 262144) ∷ next (c / 4096) ∷ next (c / 64) ∷ next c ∷ []))) in
    suc (continuation_len (slice_index (text ++ rest) 0)) ≡ length text)) [
      | true ↦ λ e. ap suc (one_byte c (ltb-true c 128 e))
      | false ↦ λ _. (elim (ltb c 2048) as (λ t. ltb c 2048 ≡ t → (let text : List ℕ = cond t ((192 + c / 64) ∷ next c ∷ []) (cond (ltb c 65536) ((224 + c / 4096) ∷ next (c / 64) ∷ next c ∷ []) ((240 + c / 262144) ∷ next (c / 4096) ∷ next (c / 64) ∷ next c ∷ [])) in
          suc (continuation_len (slice_index (text ++ rest) 0)) ≡ length text)) [
            | true ↦ λ e. ap suc (two_bytes (192 + c / 64) (omega arith) (let less : c < 2048 = ltb-true c 2048 e in omega arith))
            | false ↦ λ _. (elim (ltb c 65536) as (λ t. ltb c 65536 ≡ t → (let text : List ℕ = cond t ((224 + c / 4096) ∷ next (c / 64) ∷ next c ∷ []) ((240 + c / 262144) ∷ next (c / 4096) ∷ next (c / 64) ∷ next c ∷ []) in
                suc (continuation_len (slice_index (text ++ rest) 0)) ≡ length text)) [
                  | true ↦ λ e. ap suc (three_bytes (224 + c / 4096) (omega arith) (let less : c < 65536 = ltb-true c 65536 e in omega arith))
                  | false ↦ λ _. ap suc (four_bytes (240 + c / 262144) (omega arith))
                ]) refl
          ]) refl
    ]) refl

-- a character at the front is found
pub front_of_character : (c : ℕ) (rest : List ℕ) → front_bytes (encode c ++ rest) ≡ encode c
front_of_character c rest = ap (λ n. take n (encode c ++ rest)) (lead_says c rest) ∙ take_at (encode c) rest (length (encode c)) refl

pub character_found : (c : ℕ) (rest : List ℕ) → IsScalar c → front_char (encode c ++ rest) ≡ Some c
character_found c rest scalar =
    let one : scalars (c ∷ []) ≡ true = ap (λ b. b && true) scalar in
    ap (λ t. if is_utf8 t then slice_get (chars t) 0 else None) (front_of_character c rest)
    ∙ ap (λ v. if v then slice_get (chars (encode c)) 0 else None) (is_utf8-from_IsUtf8 (encode c) (IsUtf8-encode c scalar))
    ∙ ap (λ t. slice_get (chars t) 0) (sym (append-nil (encode c)))
    ∙ ap (λ cs. slice_get cs 0) (chars-encodes (c ∷ []) one)

front_again : (b : ℕ) (bs : List ℕ) → front_bytes (front_bytes (b ∷ bs)) ≡ front_bytes (b ∷ bs)
front_again b bs = ap (λ t. b ∷ t) (take_twice (continuation_len b) bs)
  where
    take_twice : (n : ℕ) (xs : List ℕ) → take n (take n xs) ≡ take n xs
    take_twice zero xs = refl
    take_twice (suc n) [] = refl
    take_twice (suc n) (x ∷ xs) = ap (λ t. x ∷ t) (take_twice n xs)

first_is : (cs : List ℕ) (front : List ℕ) (c : ℕ) → slice_get cs 0 ≡ Some c → encodes cs ≡ front → scalars cs ≡ true → front_bytes front ≡ front → IsScalar c × (front ≡ encode c)
first_is [] front c first all scalar again = absurd cc
first_is (d ∷ cs) front c first all scalar again =
    let same : d ≡ c = cc in
    let parts : front ≡ encode c ++ encodes cs = sym all ∙ ap (λ x. encode x ++ encodes cs) same in
    (subst IsScalar same (both (is_scalar d) (scalars cs) scalar).0, sym again ∙ ap front_bytes parts ∙ front_of_character c (encodes cs))

-- what is found is the character there
pub found_is : (b : ℕ) (bs : List ℕ) (c : ℕ) → front_char (b ∷ bs) ≡ Some c → IsScalar c × (front_bytes (b ∷ bs) ≡ encode c)
found_is b bs c =
    (elim (is_utf8 (front_bytes (b ∷ bs))) as (λ v. is_utf8 (front_bytes (b ∷ bs)) ≡ v → (if v then slice_get (chars (front_bytes (b ∷ bs))) 0 else None) ≡ Some c → IsScalar c × (front_bytes (b ∷ bs) ≡ encode c)) [
      | true ↦ λ e first.
          let text : IsUtf8 (front_bytes (b ∷ bs)) = IsUtf8-from_is_utf8 (front_bytes (b ∷ bs)) e in
          first_is (chars (front_bytes (b ∷ bs))) (front_bytes (b ∷ bs)) c first (encodes-chars (front_bytes (b ∷ bs)) text) (scalars-chars (front_bytes (b ∷ bs)) text) (front_again b bs)
      | false ↦ λ e first. absurd cc
    ]) refl

front_is : (b : ℕ) (bs : List ℕ) → IsFront (symbol_at b bs).character (symbol_at b bs).text (b ∷ bs)
front_is b bs =
    (elim (front_char (b ∷ bs)) as (λ o. front_char (b ∷ bs) ≡ o → IsFront (symbol_of o (front_bytes (b ∷ bs)) b).character (symbol_of o (front_bytes (b ∷ bs)) b).text (b ∷ bs)) [
      | Some c ↦ λ e. found_is b bs c e
      | None ↦ λ e. (refl, λ c rest scalar is. (let wrong : None ≡ Some c = sym e ∙ ap front_char is ∙ character_found c rest scalar in absurd cc))
    ]) refl

are_from : (left : ℕ) (bs : List ℕ) → AreSymbols (symbols_from left bs) (drop left bs)
are_from zero [] = refl
are_from (suc left) [] = refl
are_from (suc left) (b ∷ bs) = are_from left bs
are_from zero (b ∷ bs) =
    let s = symbol_at b bs in
    let c = cuts b bs in
    (drop (length s.text - 1) bs, ap (λ t. b ∷ t) (sym c.rest) ∙ ap (λ t. t ++ drop (length s.text - 1) bs) (sym c.text), front_is b bs, are_from (length s.text - 1) bs)

-- the symbols are the characters, and the bytes at which none begins
pub are_symbols : (bytes : List ℕ) → AreSymbols (symbols bytes) bytes
are_symbols bytes = are_from 0 bytes
