-- What begins a word begins nothing else.
use Rattle.std.proofs.Common.{◌≡◌, ℕ, ◌<◌, refl, sym, ap, ◌∙◌, arith, true, false, Option, Some, None, if◌then◌else◌}
use Rattle.std.specs.Prelude.{◌==◌, ◌||◌}
use Rattle.std.specs.Char.{is_ascii_alphabetic, is_ascii_alphanumeric, is_ascii_digit}
use Rattle.std.proofs.lemmas.Bool.Decides.{nat_tests}
use Rattle.unicode_ident.proofs.Computing.{unicode_ident}
use Rattle.unicode_ident.proofs.IdentLemmas.{is_xid_start-ascii, is_xid_continue-ascii}
use Rattle.td_tree.specs.declared.token.Sign.{Sign}
use Rattle.td_tree.specs.model.Names.{is_word_start, is_word_more}
use Rattle.td_tree.specs.model.Pieces.{is_blank, sign_at}
use Rattle.td_tree.proofs.law_lemmas.RunLaws.{same_number}

-- in ASCII a word begins with a letter or `_`
pub ascii_start : (c : ℕ) → c < 128 → is_word_start c ≡ (is_ascii_alphabetic c || (c == 95))
ascii_start c ascii = ap (λ b. b || (c == 95)) (is_xid_start-ascii c ascii)

-- and goes on with a letter, a digit, `_` or `#`
pub ascii_more : (c : ℕ) → c < 128 → is_word_more c ≡ (is_ascii_alphanumeric c || (c == 95) || (c == 95) || (c == 35))
ascii_more c ascii = ap (λ b. b || (c == 95) || (c == 35)) (is_xid_continue-ascii c ascii)

-- no word begins with a byte order mark
mark_starts_none : is_word_start 65279 ≡ false
unfolding unicode_ident
mark_starts_none = refl

other_than : (c k : ℕ) → is_word_start c ≡ true → is_word_start k ≡ false → (c == k) ≡ false
other_than c k starts none =
    (elim (c == k) as (λ b. (c == k) ≡ b → b ≡ false) [
      | true ↦ λ is. (let wrong : true ≡ false = sym starts ∙ ap is_word_start (same_number c k is) ∙ none in absurd cc)
      | false ↦ λ is. refl
    ]) refl

other_ascii : (c k : ℕ) → is_word_start c ≡ true → k < 128 → (is_ascii_alphabetic k || (k == 95)) ≡ false → (c == k) ≡ false
other_ascii c k starts ascii none = other_than c k starts (ascii_start k ascii ∙ none)

pub start_no_digit : (c : ℕ) → is_word_start c ≡ true → is_ascii_digit c ≡ false
start_no_digit c starts =
    (elim (is_ascii_digit c) as (λ b. is_ascii_digit c ≡ b → b ≡ false) [
      | true ↦ λ is.
          let ascii : c < 128 = grind (arith, nat_tests) in
          let letter : (is_ascii_alphabetic c || (c == 95)) ≡ true = sym (ascii_start c ascii) ∙ starts in
          absurd (grind (arith, nat_tests))
      | false ↦ λ is. refl
    ]) refl

pub start_no_blank : (c : ℕ) → is_word_start c ≡ true → is_blank c ≡ false
start_no_blank c starts =
    let a = other_ascii c 32 starts (omega arith) refl in
    let b = other_ascii c 9 starts (omega arith) refl in
    let d = other_ascii c 13 starts (omega arith) refl in
    let e = other_ascii c 10 starts (omega arith) refl in
    let f = other_than c 65279 starts mark_starts_none in
    λ i. a i || b i || d i || e i || f i

pub start_no_quote : (c : ℕ) → is_word_start c ≡ true → (c == 39) ≡ false
start_no_quote c starts = other_ascii c 39 starts (omega arith) refl

pub start_no_bar : (c : ℕ) → is_word_start c ≡ true → (c == 124) ≡ false
start_no_bar c starts = other_ascii c 124 starts (omega arith) refl

-- one of a list of tests
none_of : (c k : ℕ) (a : Sign) (rest : Option Sign) → is_word_start c ≡ true → k < 128 → (is_ascii_alphabetic k || (k == 95)) ≡ false → rest ≡ None → (if c == k then Some a else rest) ≡ None
none_of c k a rest starts ascii none others = ap (λ b. if b then Some a else rest) (other_ascii c k starts ascii none) ∙ others

pub start_no_sign : (c : ℕ) → is_word_start c ≡ true → sign_at c ≡ None
unfolding sign_at
start_no_sign c s =
    none_of c 123 _ _ s (omega arith) refl (none_of c 125 _ _ s (omega arith) refl (none_of c 40 _ _ s (omega arith) refl (none_of c 41 _ _ s (omega arith) refl
    (none_of c 44 _ _ s (omega arith) refl (none_of c 59 _ _ s (omega arith) refl (none_of c 58 _ _ s (omega arith) refl (none_of c 61 _ _ s (omega arith) refl
    (none_of c 60 _ _ s (omega arith) refl (none_of c 62 _ _ s (omega arith) refl (none_of c 43 _ _ s (omega arith) refl (none_of c 45 _ _ s (omega arith) refl
    (none_of c 42 _ _ s (omega arith) refl (none_of c 47 _ _ s (omega arith) refl refl)))))))))))))
