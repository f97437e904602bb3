-- The character at the front of bytes.
use Rattle.std.proofs.Common.{◌≡◌, ℕ, zero, suc, ◌+◌, ◌-◌, ◌*◌, get_or, ◌<◌, List, [], ◌∷◌, ◌++◌, length, take, refl, sym, ap, ◌∙◌, subst, arith, true, false, Option, Some, None, IsUtf8, lt-ltb, rules}
use Rattle.std.proofs.lemmas.Str.{is_utf8-from_IsUtf8, IsUtf8-from_is_utf8, IsUtf8-take, IsCharBoundary-before_ascii, IsUtf8-from_ascii, chars-IsAscii, encode_ascii, encodes-chars}
use Rattle.std.proofs.Math.Utf8.{encode, encodes}
use Rattle.std.specs.Str.{IsAscii}
use Rattle.std.proofs.lemmas.List.{take_all, take_at, get_or_at, length-append}
use Rattle.std.specs.Str.{is_utf8, chars, chars_after, continuation_len, lead_bits}
use Rattle.std.specs.Prelude.{if◌then◌else◌, slice_get}
use Rattle.td_tree.specs.model.Symbols.{front_char, front_bytes}

pub all_taken : (n : ℕ) (bs : List ℕ) → length bs < n → bs ≡ take n bs
all_taken n bs short = sym (take_all n bs (omega arith))

pub valid : (bs : List ℕ) → IsUtf8 bs → true ≡ is_utf8 bs
valid bs u = sym (is_utf8-from_IsUtf8 bs u)

pub invalid : (bs : List ℕ) → (IsUtf8 bs → ⊥) → false ≡ is_utf8 bs
invalid bs not_utf8 = (elim (is_utf8 bs) as (λ b. is_utf8 bs ≡ b → false ≡ b) [ true ↦ λ e. absurd (not_utf8 (IsUtf8-from_is_utf8 bs e)) | false ↦ λ e. refl ]) refl

pub found_char : (bs text : List ℕ) (r : Option ℕ) → r ≡ slice_get (chars text) 0 → text ≡ front_bytes bs → IsUtf8 (front_bytes bs) → r ≡ front_char bs
found_char bs text r is e u = is ∙ ap (λ t. slice_get (chars t) 0) e ∙ ap (λ b. if b then slice_get (chars (front_bytes bs)) 0 else None) (valid (front_bytes bs) u)

-- ---- what is cut inside a character is none

-- fewer bytes than the lead byte says spell nothing
short : (n c : ℕ) (bs : List ℕ) → length bs < n → chars_after n c bs ≡ []
short zero c bs less = absurd (omega arith)
short (suc n) c [] less = refl
short (suc n) c (b ∷ bs) less = short n (c * 64 + (b - 128)) bs (omega arith)

-- of a character only a part: no text
pub part_is_none : (b : ℕ) (bs : List ℕ) → length bs < continuation_len b → is_utf8 (b ∷ bs) ≡ false
unfolding is_utf8 chars
part_is_none b bs less = rw (short (continuation_len b) (lead_bits b) bs less) refl

-- a text that goes on past an ASCII byte is none, where the lead byte says that it is one character
pub past_ascii_is_none : (b : ℕ) (xs ys : List ℕ) (a : ℕ) → a < 128 → length xs < continuation_len b → is_utf8 (b ∷ xs ++ a ∷ ys) ≡ false
past_ascii_is_none b xs ys a ascii less =
    (elim (is_utf8 (b ∷ xs ++ a ∷ ys)) as (λ v. is_utf8 (b ∷ xs ++ a ∷ ys) ≡ v → v ≡ false) [
      | true ↦ λ e.
          let all : List ℕ = (b ∷ xs) ++ a ∷ ys in
          let i : ℕ = length (b ∷ xs) in
          let u : IsUtf8 all = IsUtf8-from_is_utf8 all e in
          let at : get_or all i 0 ≡ a = get_or_at (b ∷ xs) a ys 0 i refl in
          let inside : i < length all = omega (arith, length-append (b ∷ xs) (a ∷ ys)) in
          let front : IsUtf8 (take i all) = IsUtf8-take all i u (IsCharBoundary-before_ascii all i inside (omega (arith, at))) in
          let whole : is_utf8 (b ∷ xs) ≡ true = is_utf8-from_IsUtf8 (b ∷ xs) (subst IsUtf8 (take_at (b ∷ xs) (a ∷ ys) i refl) front) in
          absurd (let wrong : is_utf8 (b ∷ xs) ≡ false = part_is_none b xs less in cc)
      | false ↦ λ e. refl
    ]) refl

-- ---- ASCII

pub ascii_bytes : (b : ℕ) (bs : List ℕ) → b < 128 → front_bytes (b ∷ bs) ≡ b ∷ []
ascii_bytes b bs ascii = rw (lt-ltb b 128 ascii) refl

one_ascii : (b : ℕ) → b < 128 → IsAscii (b ∷ [])
one_ascii b ascii = search rules

-- an ASCII byte is a character
pub ascii_char : (b : ℕ) (bs : List ℕ) → b < 128 → front_char (b ∷ bs) ≡ Some b
ascii_char b bs ascii =
    ap (λ t. if is_utf8 t then slice_get (chars t) 0 else None) (ascii_bytes b bs ascii)
    ∙ ap (λ v. if v then slice_get (chars (b ∷ [])) 0 else None) (is_utf8-from_IsUtf8 (b ∷ []) (IsUtf8-from_ascii (b ∷ []) (one_ascii b ascii)))
    ∙ ap (λ cs. slice_get cs 0) (chars-IsAscii (b ∷ []) (one_ascii b ascii))

lead : (cs bs : List ℕ) (c b : ℕ) → c < 128 → slice_get cs 0 ≡ Some c → encodes cs ≡ b ∷ bs → b ≡ c
lead [] bs c b ascii first e = absurd cc
lead (x ∷ cs) bs c b ascii first e =
    let same : x ≡ c = cc in
    let begins : c ∷ encodes cs ≡ b ∷ bs = ap (λ t. t ++ encodes cs) (sym (encode_ascii c ascii)) ∙ ap (λ d. encode d ++ encodes cs) (sym same) ∙ e in
    cc

-- a character in ASCII is its byte
pub ascii_byte : (b : ℕ) (bs : List ℕ) (c : ℕ) → c < 128 → front_char (b ∷ bs) ≡ Some c → b ≡ c
ascii_byte b bs c ascii =
    (elim (is_utf8 (front_bytes (b ∷ bs))) as (λ v. is_utf8 (front_bytes (b ∷ bs)) ≡ v → (if v then slice_get (chars (front_bytes (b ∷ bs))) 0 else None) ≡ Some c → b ≡ c) [
      | true ↦ λ e first. lead (chars (front_bytes (b ∷ bs))) (take (continuation_len b) bs) c b ascii first (encodes-chars (front_bytes (b ∷ bs)) (IsUtf8-from_is_utf8 (front_bytes (b ∷ bs)) e))
      | false ↦ λ e first. absurd cc
    ]) refl
