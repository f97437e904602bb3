-- Words and what ends them: no name has a byte of those that stand after names, numbers and words in texts.
use Rattle.std.proofs.Common.{◌≡◌, ℕ, ◌+◌, ◌/◌, ◌<◌, ◌≤◌, List, [], ◌∷◌, ◌++◌, refl, sym, ap, ◌∙◌, subst, arith, Bool, true, false, cond, ltb, ◌&&◌, true≢false, ltb-true}
use Rattle.std.specs.Prelude.{◌==◌, ◌||◌, not, is_some}
use Rattle.std.specs.Char.{is_ascii_alphabetic, is_ascii_alphanumeric}
use Rattle.std.specs.List.{list_all}
use Rattle.std.specs.Str.{chars}
use Rattle.std.proofs.Math.Utf8.{encode, encodes}
use lib.Utf8.{next}
use Rattle.std.proofs.lemmas.Bool.Decides.{nat_tests}
use Rattle.std.proofs.lemmas.Str.{encodes-chars}
use Rattle.td_tree.specs.model.Keywords.{keyword_of}
use Rattle.td_tree.specs.model.Names.{IsName, begins_the, is_name, is_word, is_word_more, is_word_start}
use Rattle.td_tree.proofs.law_lemmas.WordStarts.{ascii_more, ascii_start}

-- a space, a quote, a parenthesis, a comma, a minus or a brace
abbrev pub is_mark : ℕ → Bool
is_mark c = (c == 32) || (c == 39) || (c == 40) || (c == 41) || (c == 44) || (c == 45) || (c == 123) || (c == 125)

-- no byte is one of these
abbrev pub IsPlain : List ℕ → Type 0
IsPlain [] = Unit {0}
IsPlain (c ∷ s) = (is_mark c ≡ false) × IsPlain s

-- the text begins with one of these, if with any byte
abbrev pub IsMarked : List ℕ → Type 0
IsMarked [] = Unit {0}
IsMarked (c ∷ x) = is_mark c ≡ true

pub tail_of : (c d : ℕ) (x y : List ℕ) → c ∷ x ≡ d ∷ y → (c ≡ d) × (x ≡ y)
tail_of c d x y e = (cc, cc)

-- a front that both lists have
pub cut_front : (p x y : List ℕ) → p ++ x ≡ p ++ y → x ≡ y
cut_front [] x y e = e
cut_front (c ∷ p) x y e = cut_front p x y (tail_of c c (p ++ x) (p ++ y) e).1

mark_first : (d : ℕ) (y x : List ℕ) → is_mark d ≡ false → IsMarked x → x ≡ d ∷ y → ⊥
mark_first d y [] plain marked e = cc
mark_first d y (c ∷ x) plain marked e =
    true≢false (sym marked ∙ ap is_mark (tail_of c d x y e).0 ∙ plain)

-- a plain front, up to where a mark stands
pub plain_cut : (s t x y : List ℕ) → IsPlain s → IsPlain t → IsMarked x → IsMarked y → s ++ x ≡ t ++ y → (s ≡ t) × (x ≡ y)
plain_cut [] [] x y p q m n e = (refl, e)
plain_cut [] (d ∷ t) x y p q m n e = absurd (mark_first d (t ++ y) x q.0 m e)
plain_cut (c ∷ s) [] x y p q m n e = absurd (mark_first c (s ++ x) y p.0 n (sym e))
plain_cut (c ∷ s) (d ∷ t) x y p q m n e =
    let both = tail_of c d (s ++ x) (t ++ y) e in
    let rest = plain_cut s t x y p.1 q.1 m n both.1 in
    (λ i. both.0 i ∷ rest.0 i, rest.1)

-- ---- names

high_plain : (b : ℕ) → 128 ≤ b → is_mark b ≡ false
high_plain b high = grind (arith, nat_tests)

start_plain : (c : ℕ) → c < 128 → (is_ascii_alphabetic c || (c == 95)) ≡ true → is_mark c ≡ false
start_plain c low e = grind (arith, nat_tests)

more_plain : (c : ℕ) → c < 128 → (is_ascii_alphanumeric c || (c == 95) || (c == 95) || (c == 35)) ≡ true → is_mark c ≡ false
more_plain c low e = grind (arith, nat_tests)

encode_plain : (c : ℕ) → (c < 128 → is_mark c ≡ false) → IsPlain (encode c)
unfolding encode
encode_plain c low =
    (elim (ltb c 128) as (λ t. ltb c 128 ≡ t → IsPlain (cond t (c ∷ []) (cond (ltb c 2048) ((192 + c / 64) ∷ next c ∷ []) (cond (ltb c 65536) ((224 + c / 4096) ∷ next (c / 64) ∷ next c ∷ []) ((240 + c / 262144) ∷ next (c / 4096) ∷ next (c / 64) ∷ next c ∷ []))))) [
      | true ↦ λ e. (low (ltb-true c 128 e), tt)
      | false ↦ λ _. elim (ltb c 2048) as (λ t. IsPlain (cond t ((192 + c / 64) ∷ next c ∷ []) (cond (ltb c 65536) ((224 + c / 4096) ∷ next (c / 64) ∷ next c ∷ []) ((240 + c / 262144) ∷ next (c / 4096) ∷ next (c / 64) ∷ next c ∷ [])))) [
        | true ↦ (high_plain (192 + c / 64) (omega arith), (high_plain (next c) (omega arith), tt))
        | false ↦ elim (ltb c 65536) as (λ t. IsPlain (cond t ((224 + c / 4096) ∷ next (c / 64) ∷ next c ∷ []) ((240 + c / 262144) ∷ next (c / 4096) ∷ next (c / 64) ∷ next c ∷ []))) [
          | true ↦ (high_plain (224 + c / 4096) (omega arith), (high_plain (next (c / 64)) (omega arith), (high_plain (next c) (omega arith), tt)))
          | false ↦ (high_plain (240 + c / 262144) (omega arith), (high_plain (next (c / 4096)) (omega arith), (high_plain (next (c / 64)) (omega arith), (high_plain (next c) (omega arith), tt))))
        ]
      ]
    ]) refl

joined_plain : (s t : List ℕ) → IsPlain s → IsPlain t → IsPlain (s ++ t)
joined_plain [] t p q = q
joined_plain (c ∷ s) t p q = (p.0, joined_plain s t p.1 q)

two_true : (a b : Bool) → (a && b) ≡ true → (a ≡ true) × (b ≡ true)
two_true true b e = (refl, e)
two_true false b e = absurd cc

more_chars_plain : (cs : List ℕ) → list_all is_word_more cs ≡ true → IsPlain (encodes cs)
more_chars_plain [] e = tt
more_chars_plain (c ∷ cs) e =
    let w = two_true (is_word_more c) (list_all is_word_more cs) e in
    joined_plain (encode c) (encodes cs) (encode_plain c (λ low. more_plain c low (sym (ascii_more c low) ∙ w.0))) (more_chars_plain cs w.1)

word_plain : (cs : List ℕ) → is_word cs ≡ true → IsPlain (encodes cs)
word_plain [] e = absurd cc
word_plain (c ∷ cs) e =
    let w = two_true (is_word_start c) (list_all is_word_more cs) e in
    joined_plain (encode c) (encodes cs) (encode_plain c (λ low. start_plain c low (sym (ascii_start c low) ∙ w.0))) (more_chars_plain cs w.1)

named : (t : List ℕ) → IsName t → (is_word (chars t) ≡ true) × (is_some (keyword_of t) ≡ false)
unfolding is_name
named t h =
    let w = two_true (is_word (chars t) && not (is_some (keyword_of t))) (not (begins_the t)) h.named in
    let k = two_true (is_word (chars t)) (not (is_some (keyword_of t))) w.0 in
    (k.0, no_word (is_some (keyword_of t)) k.1)
  where
    no_word : (b : Bool) → not b ≡ true → b ≡ false
    no_word true e = absurd cc
    no_word false e = refl

-- no byte of a name is a mark
pub name_plain : (n : List ℕ) → IsName n → IsPlain n
name_plain n h = subst IsPlain (encodes-chars n h.utf8) (word_plain (chars n) (named n h).0)

-- no name is a reserved word
pub name_unreserved : (n : List ℕ) → IsName n → is_some (keyword_of n) ≡ false
name_unreserved n h = (named n h).1
