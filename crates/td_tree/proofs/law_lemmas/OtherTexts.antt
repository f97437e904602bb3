-- Numbers, signs and texts in quotes are tokens by themselves.
use Rattle.std.proofs.Common.{IsUtf8, ◌≡◌, ℕ, ◌+◌, ◌-◌, ◌*◌, ◌^◌, ◌<◌, List, [], ◌∷◌, length, refl, sym, ap, ◌∙◌, arith, true, Some, ◌&&◌, map}
use Rattle.std.specs.Prelude.{fold, if◌then◌else◌}
use Rattle.std.specs.Char.{is_ascii_digit}
use Rattle.std.specs.Fmt.{decimal}
use Rattle.std.specs.List.{list_all}
use Rattle.std.specs.Str.{chars, is_utf8}
use Rattle.std.specs.Str.Parse.{AllDigits, digits_value_after}
use Rattle.std.specs.Char.{digit_value}
use Rattle.std.proofs.lemmas.Bool.Decides.{nat_tests}
use Rattle.std.proofs.lemmas.Fmt.{decimal_is_IsNumeral, IsAscii-decimal}
use Rattle.std.proofs.lemmas.Str.{IsUtf8-from_ascii, chars-IsAscii, digit_value_digit, is_utf8-from_IsUtf8}
use Rattle.std.proofs.lemmas.Str.Parse.{digit_from_value}
use Rattle.td_tree.specs.declared.piece.Piece.TheVariants.{Number}
use Rattle.td_tree.specs.declared.piece.Piece.TheVariants as pieces_are
use Rattle.td_tree.specs.declared.token.Kind.TheVariants as kinds
use Rattle.td_tree.specs.declared.token.Sign.{Sign}
use Rattle.td_tree.specs.declared.token.Sign.TheVariants as signs
use Rattle.td_tree.specs.model.Numbers.{decimal_value}
use Rattle.td_tree.specs.model.Pieces.{passes}
use Rattle.td_tree.specs.model.Signs.{sign_text}
use Rattle.td_tree.specs.laws.Spellings.{is_number_spelled, spelling, characters}
use Rattle.td_tree.specs.model.Symbols.{symbols}
use Rattle.td_tree.specs.model.TextTokens.{text_in_quotes}
use Rattle.td_tree.proofs.law_lemmas.Boundaries.{number_ends, sign_ends, text_ends}
use Rattle.td_tree.proofs.law_lemmas.CharacterLaws.{characters_are}
use Rattle.td_tree.proofs.law_lemmas.KindLaws.{as_spelled}
use Rattle.td_tree.proofs.law_lemmas.QuotedLaws.{quoted_state}
use Rattle.td_tree.proofs.law_lemmas.SpacedLaws.{Stands}
use Rattle.td_tree.proofs.law_lemmas.TextTokenLaws.{same_utf8}

-- ---- numbers

digit_is : (c : ℕ) → digit_value c < 10 → is_ascii_digit c ≡ true
digit_is c low = let w = digit_from_value c low in grind (arith, nat_tests)

digits_are : (ds : List ℕ) → AllDigits 10 ds → list_all is_ascii_digit ds ≡ true
digits_are [] all = refl
digits_are (d ∷ ds) all = ap (λ b. b && list_all is_ascii_digit ds) (digit_is d all.0) ∙ digits_are ds all.1

digits_pass : (ds : List ℕ) → AllDigits 10 ds → list_all (passes is_ascii_digit) (map Some ds) ≡ true
digits_pass [] all = refl
digits_pass (d ∷ ds) all = ap (λ b. b && list_all (passes is_ascii_digit) (map Some ds)) (digit_is d all.0) ∙ digits_pass ds all.1

number_spelled : (ds : List ℕ) → 0 < length ds → AllDigits 10 ds → is_number_spelled (map Some ds) ≡ true
number_spelled [] some all = absurd (omega arith)
number_spelled (d ∷ ds) some all = digits_pass (d ∷ ds) all

-- a number in decimal is a token
pub number_stands : (n : ℕ) → n < 2 ^ 64 → Stands (decimal n) kinds.Number
number_stands n low =
    let ascii = IsAscii-decimal n low in
    let ds = decimal_is_IsNumeral n low in
    record {
      piece = Number;
      is = (as_spelled (symbols (decimal n)) Number).1
          (ap is_number_spelled (characters_are (decimal n) (IsUtf8-from_ascii (decimal n) ascii) ∙ ap (map Some) (chars-IsAscii (decimal n) ascii)) ∙ number_spelled (decimal n) ds.0.0 ds.0.1);
      ends = number_ends;
      kind_is = refl;
    }

value_from : (n : ℕ) (ds : List ℕ) → AllDigits 10 ds → fold (λ m digit. m * 10 + (digit - 48)) n ds ≡ digits_value_after 10 n ds
value_from n [] all = refl
value_from n (d ∷ ds) all =
    let same : digit_value d ≡ d - 48 = (let w = digit_value_digit d (digit_from_value d all.0) in omega (arith, w)) in
    ap (λ v. fold (λ m digit. m * 10 + (digit - 48)) (n * 10 + v) ds) (sym same) ∙ value_from (n * 10 + digit_value d) ds all.1

-- and its value is the number
pub decimal_again : (n : ℕ) → n < 2 ^ 64 → decimal_value (decimal n) ≡ n
decimal_again n low = let ds = decimal_is_IsNumeral n low in value_from 0 (decimal n) ds.0.1 ∙ ds.1

pub decimal_digits : (n : ℕ) → n < 2 ^ 64 → list_all is_ascii_digit (decimal n) ≡ true
decimal_digits n low = digits_are (decimal n) (decimal_is_IsNumeral n low).0.1

-- ---- signs

sign_characters : (s : Sign) → characters (symbols (sign_text s)) ≡ spelling s
unfolding is_utf8 chars lib.Utf8.encode
sign_characters signs.Assign = refl
sign_characters _ = refl

-- a sign is a token
pub sign_stands : (s : Sign) → Stands (sign_text s) (kinds.Sign s)
sign_stands s = record {
  piece = pieces_are.Sign s;
  is = (as_spelled (symbols (sign_text s)) (pieces_are.Sign s)).1 (sign_characters s);
  ends = sign_ends s;
  kind_is = refl;
}

-- ---- texts in quotes

-- a text in quotes that says UTF-8 is a token
pub text_stands : (said : List ℕ) → IsUtf8 said → Stands (text_in_quotes said) kinds.Text
text_stands said utf8 = record {
  piece = pieces_are.Text;
  is = quoted_state said;
  ends = text_ends;
  kind_is = ap (λ b. Some (if b then kinds.Text else kinds.Bad)) (same_utf8 said ∙ is_utf8-from_IsUtf8 said utf8);
}
