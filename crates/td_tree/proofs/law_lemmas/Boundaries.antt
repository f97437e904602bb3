-- Bytes that end whatever token stands before them.
use Rattle.std.proofs.Common.{◌≡◌, ℕ, ◌<◌, List, [], ◌∷◌, refl, ap, ◌∙◌, arith, Bool, true, false, Some, None, if◌then◌else◌}
use Rattle.std.specs.Prelude.{◌==◌, ◌||◌}
use Rattle.std.specs.Char.{is_ascii_alphanumeric, is_ascii_digit}
use Rattle.std.proofs.lemmas.Bool.Decides.{nat_tests}
use Rattle.td_tree.specs.declared.piece.Piece.TheVariants as pieces_are
use Rattle.td_tree.specs.declared.token.Sign.{Sign}
use Rattle.td_tree.specs.declared.token.Sign.TheVariants as signs
use Rattle.td_tree.specs.model.Pieces.{goes_on, sign_goes_on}
use Rattle.td_tree.proofs.law_lemmas.WordStarts.{ascii_more}

-- a line feed, a space, a parenthesis, a comma, a semicolon or a brace
abbrev pub is_boundary : ℕ → Bool
is_boundary b = (b == 10) || (b == 32) || (b == 40) || (b == 41) || (b == 44) || (b == 59) || (b == 123) || (b == 125)

-- the bytes begin with one of these, if with any
abbrev pub IsBounded : List ℕ → Type 0
IsBounded [] = Unit {0}
IsBounded (b ∷ bs) = is_boundary b ≡ true

pub boundary_ascii : (b : ℕ) → is_boundary b ≡ true → b < 128
boundary_ascii b e = grind (arith, nat_tests)

letter_none : (b : ℕ) → is_boundary b ≡ true → (is_ascii_alphanumeric b || (b == 95) || (b == 95) || (b == 35)) ≡ false
letter_none b e = grind (arith, nat_tests)

digit_none : (b : ℕ) → is_boundary b ≡ true → is_ascii_digit b ≡ false
digit_none b e = grind (arith, nat_tests)

quote_none : (b : ℕ) → is_boundary b ≡ true → (b == 39) ≡ false
quote_none b e = grind (arith, nat_tests)

equal_none : (b : ℕ) → is_boundary b ≡ true → (b == 61) ≡ false
equal_none b e = grind (arith, nat_tests)

greater_none : (b : ℕ) → is_boundary b ≡ true → (b == 62) ≡ false
greater_none b e = grind (arith, nat_tests)

slash_none : (b : ℕ) → is_boundary b ≡ true → (b == 47) ≡ false
slash_none b e = grind (arith, nat_tests)

star_none : (b : ℕ) → is_boundary b ≡ true → (b == 42) ≡ false
star_none b e = grind (arith, nat_tests)

pub word_ends : (b : ℕ) → is_boundary b ≡ true → goes_on pieces_are.Word (Some b) ≡ None
unfolding goes_on
word_ends b e = ap (λ v. if v then Some pieces_are.Word else None) (ascii_more b (boundary_ascii b e) ∙ letter_none b e)

pub number_ends : (b : ℕ) → is_boundary b ≡ true → goes_on pieces_are.Number (Some b) ≡ None
unfolding goes_on
number_ends b e = ap (λ v. if v then Some pieces_are.Number else None) (digit_none b e)

pub text_ends : (b : ℕ) → is_boundary b ≡ true → goes_on pieces_are.Text (Some b) ≡ None
unfolding goes_on
text_ends b e = ap (λ v. if v then Some pieces_are.OpenText else None) (quote_none b e)

pub sign_ends : (s : Sign) (b : ℕ) → is_boundary b ≡ true → goes_on (pieces_are.Sign s) (Some b) ≡ None
unfolding goes_on sign_goes_on
sign_ends signs.Colon b e = ap (λ v. if v then Some (pieces_are.Sign signs.Assign) else None) (equal_none b e)
sign_ends signs.Less b e =
    ap (λ v. if v then Some (pieces_are.Sign signs.LessOrEqual) else (if b == 62 then Some (pieces_are.Sign signs.NotEqual) else None)) (equal_none b e)
    ∙ ap (λ v. if v then Some (pieces_are.Sign signs.NotEqual) else None) (greater_none b e)
sign_ends signs.Greater b e = ap (λ v. if v then Some (pieces_are.Sign signs.GreaterOrEqual) else None) (equal_none b e)
sign_ends signs.Divide b e =
    ap (λ v. if v then Some pieces_are.LineComment else (if b == 42 then Some pieces_are.OpenComment else None)) (slash_none b e)
    ∙ ap (λ v. if v then Some pieces_are.OpenComment else None) (star_none b e)
sign_ends _ b e = refl
