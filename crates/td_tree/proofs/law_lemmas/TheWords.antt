-- What follows THE_ in a THE word makes a THE word behind capitals too.
use Rattle.std.proofs.Common.{◌≡◌, ℕ, ◌<◌, ◌≤◌, List, [], ◌∷◌, ◌++◌, refl, sym, ap, ◌∙◌, subst, arith, Bool, true, false, IsUtf8, ◌&&◌, codes, drop, length}
use Rattle.std.specs.Prelude.{nat_eq}
use Rattle.std.specs.Char.{to_ascii_lowercase}
use Rattle.std.specs.List.{list_all}
use Rattle.std.specs.Str.{chars, is_utf8}
use Rattle.std.proofs.Math.Utf8.{encode, encodes, scalars}
use lib.Utf8.{scalar as is_scalar}
use Rattle.std.proofs.lemmas.Bool.Decides.{nat_tests}
use Rattle.std.proofs.lemmas.Str.{encodes-chars, scalars-chars, chars-encodes, char_from_byte, IsUtf8-from_is_utf8, encode_ascii}
use Rattle.td_tree.specs.model.Names.{is_word, is_word_start, is_word_more, begins_the}
use Rattle.td_tree.specs.model.TokenLexemes.{is_the_word}
use Rattle.td_tree.proofs.law_lemmas.CharacterLaws.{both}
use Rattle.td_tree.proofs.law_lemmas.WordStarts.{ascii_start, ascii_more}

-- a letter that is this one in some case is ASCII
low_letter : (a k : ℕ) → k < 128 → nat_eq (to_ascii_lowercase a) k ≡ true → a < 128
low_letter a k low e = grind (arith, nat_tests)

-- the first four bytes, all ASCII
record BeginsThe (t : List ℕ) : Type 0 where
  a : ℕ
  b : ℕ
  c : ℕ
  d : ℕ
  rest : List ℕ
  is : t ≡ a ∷ b ∷ c ∷ d ∷ rest
  low : (a < 128) × (b < 128) × (c < 128) × (d < 128)

all_four : (w x y z rest : Bool) → (w && (x && (y && (z && rest)))) ≡ true → (w ≡ true) × (x ≡ true) × (y ≡ true) × (z ≡ true) × (rest ≡ true)
all_four true true true true rest e = (refl, refl, refl, refl, e)
all_four true true true false rest e = absurd cc
all_four true true false z rest e = absurd cc
all_four true false y z rest e = absurd cc
all_four false x y z rest e = absurd cc

none_after : (w x y : Bool) → (w && (x && (y && false))) ≡ true → ⊥
none_after true true true e = absurd cc
none_after true true false e = absurd cc
none_after true false y e = absurd cc
none_after false x y e = absurd cc

-- the letter in some case
abbrev is_letter : ℕ → ℕ → Bool
is_letter k a = nat_eq (to_ascii_lowercase a) k

begins_so : (t : List ℕ) → begins_the t ≡ true → BeginsThe t
begins_so [] e = absurd cc
begins_so (a ∷ []) e = absurd (none_after true true (is_letter 116 a) e)
begins_so (a ∷ b ∷ []) e = absurd (none_after true (is_letter 116 a) (is_letter 104 b) e)
begins_so (a ∷ b ∷ c ∷ []) e = absurd (none_after (is_letter 116 a) (is_letter 104 b) (is_letter 101 c) e)
begins_so (a ∷ b ∷ c ∷ d ∷ rest) e =
    let w = all_four (is_letter 116 a) (is_letter 104 b) (is_letter 101 c) (is_letter 95 d) true e in
    record {
      a = a;
      b = b;
      c = c;
      d = d;
      rest = rest;
      is = refl;
      low = (low_letter a 116 (omega arith) w.0, low_letter b 104 (omega arith) w.1, low_letter c 101 (omega arith) w.2, low_letter d 95 (omega arith) w.3);
    }

pub is_long : (t : List ℕ) → begins_the t ≡ true → 4 ≤ length t
is_long t e = let h = begins_so t e in rw h.is (omega arith)

-- characters whose first is this byte
record Peeled (cs r : List ℕ) (a : ℕ) : Type 0 where
  rest : List ℕ
  is : cs ≡ a ∷ rest
  bytes : encodes rest ≡ r
  valid : scalars rest ≡ true

peel : (cs r : List ℕ) (a : ℕ) → a < 128 → encodes cs ≡ a ∷ r → scalars cs ≡ true → Peeled cs r a
peel [] r a low e valid = absurd cc
peel (c ∷ cs) r a low e valid =
    let same : c ≡ a = char_from_byte (a ∷ r) (encodes cs) c (sym e) low (omega arith) in
    let tails : a ∷ encodes cs ≡ a ∷ r = ap (λ x. x ++ encodes cs) (sym (encode_ascii a low)) ∙ ap (λ x. encode x ++ encodes cs) (sym same) ∙ e in
    record { rest = cs; is = ap (λ x. x ∷ cs) same; bytes = (let t : encodes cs ≡ r = cc in t); valid = (both (is_scalar c) (scalars cs) valid).1 }

pub record StandsBehindThe (rest : List ℕ) : Type 0 where
  pub itself : IsUtf8 rest
  pub utf8 : IsUtf8 (codes "THE_" ++ rest)
  pub word : is_word (chars (codes "THE_" ++ rest)) ≡ true

capitals_more : (cs : List ℕ) → list_all is_word_more cs ≡ true → is_word (84 ∷ 72 ∷ 69 ∷ 95 ∷ cs) ≡ true
capitals_more cs all = rw (ascii_start 84 (omega arith), ascii_more 72 (omega arith), ascii_more 69 (omega arith), ascii_more 95 (omega arith)) all

the_bytes : (cs : List ℕ) → encodes (84 ∷ 72 ∷ 69 ∷ 95 ∷ cs) ≡ codes "THE_" ++ encodes cs
unfolding encode
the_bytes cs = refl

behind : (cs r : List ℕ) → scalars cs ≡ true → encodes cs ≡ r → list_all is_word_more cs ≡ true → StandsBehindThe r
behind cs r valid is more =
    let all : encodes (84 ∷ 72 ∷ 69 ∷ 95 ∷ cs) ≡ codes "THE_" ++ r = the_bytes cs ∙ ap (λ x. codes "THE_" ++ x) is in
    record {
      itself = (cs, (valid, is));
      utf8 = (84 ∷ 72 ∷ 69 ∷ 95 ∷ cs, (valid, all));
      word = ap (λ t. is_word (chars t)) (sym all) ∙ ap is_word (chars-encodes (84 ∷ 72 ∷ 69 ∷ 95 ∷ cs) valid) ∙ capitals_more cs more;
    }

more_of : (a b c d : ℕ) (cs : List ℕ) → is_word (a ∷ b ∷ c ∷ d ∷ cs) ≡ true → list_all is_word_more cs ≡ true
more_of a b c d cs e = (all_four (is_word_start a) (is_word_more b) (is_word_more c) (is_word_more d) (list_all is_word_more cs) e).4

-- what follows the first four bytes
pub behind_the : (t : List ℕ) → is_the_word t ≡ true → StandsBehindThe (drop 4 t)
behind_the t e =
    let w = both (is_utf8 t && is_word (chars t)) (begins_the t) e in
    let v = both (is_utf8 t) (is_word (chars t)) w.0 in
    let utf8 : IsUtf8 t = IsUtf8-from_is_utf8 t v.0 in
    let h = begins_so t w.1 in
    let one = peel (chars t) (h.b ∷ h.c ∷ h.d ∷ h.rest) h.a h.low.0 (encodes-chars t utf8 ∙ h.is) (scalars-chars t utf8) in
    let two = peel one.rest (h.c ∷ h.d ∷ h.rest) h.b h.low.1 one.bytes one.valid in
    let three = peel two.rest (h.d ∷ h.rest) h.c h.low.2 two.bytes two.valid in
    let four = peel three.rest h.rest h.d h.low.3 three.bytes three.valid in
    let cs : chars t ≡ h.a ∷ h.b ∷ h.c ∷ h.d ∷ four.rest = one.is ∙ ap (λ x. h.a ∷ x) two.is ∙ ap (λ x. h.a ∷ h.b ∷ x) three.is ∙ ap (λ x. h.a ∷ h.b ∷ h.c ∷ x) four.is in
    subst StandsBehindThe (sym (ap (drop 4) h.is)) (behind four.rest h.rest four.valid four.bytes (more_of h.a h.b h.c h.d four.rest (sym (ap is_word cs) ∙ v.1)))
