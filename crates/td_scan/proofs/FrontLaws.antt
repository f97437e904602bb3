-- The tokens at the front of bytes that are told at once.
use Rattle.std.proofs.Common.{◌≡◌, ℕ, ◌+◌, ◌<◌, zero, suc, List, ◌++◌, length, take, drop, refl, sym, ap, ◌∙◌, arith, Bool, true, false, Option, Some, None}
use Rattle.std.specs.Prelude.{◌==◌, ◌||◌, if◌then◌else◌, not, slice_index}
use Rattle.std.proofs.lemmas.Bool.Decides.{nat_tests}
use Rattle.std.proofs.lemmas.List.{get_or-drop, length-drop}
use Rattle.std.specs.Char.{is_ascii_alphabetic, is_ascii_alphanumeric, is_ascii_digit}
use Rattle.td_tree.specs.declared.piece.Piece.{Piece}
use Rattle.td_tree.specs.declared.piece.Piece.TheVariants.{Number, Word}
use Rattle.td_tree.specs.declared.piece.Piece.TheVariants as pieces_are
use Rattle.td_tree.specs.declared.token.Kind.{Kind}
use Rattle.td_tree.specs.declared.token.Kind.TheVariants as kinds
use Rattle.td_tree.specs.declared.token.Sign.{Sign}
use Rattle.td_tree.specs.model.Keywords.{keyword_of}
use Rattle.td_tree.specs.model.Names.{begins_the}
use Rattle.td_tree.specs.model.Pieces.{goes_on, kind_after, sign_goes_on, word_kind, word_kind_of}
use Rattle.td_tree.specs.model.Statements.{is_end}
use Rattle.td_tree.specs.model.Symbols.{symbols}
use Rattle.td_scan.specs.declared.front.FirstToken.{FirstToken}
use Rattle.td_scan.specs.declared.piece.First.{First}
use Rattle.td_scan.specs.code.Fronts.{end_from}
use Rattle.td_scan.specs.code.Progress.{IsBegun, IsFirst, IsOrdinary, IsToken, IsWholeSign, IsWord, is_bad_kind}
use Rattle.td_scan.proofs.NoEnds.{word_is_none}
use Rattle.td_scan.proofs.ReadLaws.{token_more}
use Rattle.td_scan.proofs.RunLaws.{IsRun, ascii_begun, digit_opens, digit_run, ended, letter_opens, number_ends, plain_run, whole_first, word_ends}

abbrev piece_of : ℕ → Piece → First
piece_of n piece = record { length = n; piece = piece }

abbrev token_of : ℕ → Kind → FirstToken
token_of n kind = record { length = n; kind = kind }

-- a first piece that is a token
pub token_is : (bs : List ℕ) (n : ℕ) (piece : Piece) (kind : Kind) → IsFirst bs (piece_of n piece) → kind_after piece (take n bs) ≡ Some kind → IsToken bs (token_of n kind)
token_is bs n piece kind first is = token_more bs (piece_of n piece) kind first is

-- a piece that so many bytes leave as it is, and that the next one ends
run_ends : (bs : List ℕ) (piece : Piece) (n : ℕ) → IsBegun bs (Some (piece_of 1 piece)) → IsRun piece bs 1 → IsRun piece bs n → 0 < n → n < length bs
    → slice_index (drop n bs) 0 < 128 → goes_on piece (Some (slice_index (drop n bs) 0)) ≡ None → IsFirst bs (piece_of n piece)
run_ends bs piece n begun one run some less ascii none =
    record {
      some = some;
      within = omega arith;
      same = λ later. sym (begun.same later)
          ∙ ap (λ k. end_from k piece (symbols (drop 1 bs ++ later))) (let k : 1 ≡ 0 + 1 = omega arith in k)
          ∙ sym (one 0 later) ∙ run 0 later
          ∙ ap (λ k. end_from k piece (symbols (drop n bs ++ later))) (let k : 0 + n ≡ n = omega arith in k)
          ∙ ended piece (drop n bs) (omega (arith, length-drop n bs)) ascii none n later;
    }

-- where the first byte passes, the run is not empty
some_passes : (n : ℕ) (bs : List ℕ) (test : ℕ → Bool) → 0 < length bs → test (slice_index bs 0) ≡ true → (n < length bs → test (slice_index bs n) ≡ false) → 0 < n
some_passes zero bs test some first stops = absurd (let last = stops some in cc)
some_passes (suc n) bs test some first stops = omega arith

abbrev is_plain : ℕ → Bool
is_plain b = is_ascii_alphanumeric b || (b == 95)

letter_is_plain : (b : ℕ) → (is_ascii_alphabetic b || (b == 95)) ≡ true → is_plain b ≡ true
letter_is_plain b letter = grind (arith, nat_tests)

letter_is_ascii : (b : ℕ) → (is_ascii_alphabetic b || (b == 95)) ≡ true → b < 128
letter_is_ascii b letter = grind (arith, nat_tests)

digit_is_ascii : (b : ℕ) → is_ascii_digit b ≡ true → b < 128
digit_is_ascii b digit = grind (arith, nat_tests)

other_than : (b : ℕ) → (b ≡ 35 → ⊥) → not (b == 35) ≡ true
other_than b other = grind (arith, nat_tests)

-- a word that another ASCII character ends
pub word_is : (bs : List ℕ) (n : ℕ) → 0 < length bs → (is_ascii_alphabetic (slice_index bs 0) || (slice_index bs 0 == 95)) ≡ true
    → ((k : ℕ) → k < n → is_plain (slice_index bs k) ≡ true) → (n < length bs → is_plain (slice_index bs n) ≡ false)
    → n < length bs → slice_index (drop n bs) 0 < 128 → (slice_index (drop n bs) 0 ≡ 35 → ⊥) → IsWord bs n
word_is bs n some letter all stops less ascii other =
    let more : 0 < n = some_passes n bs is_plain some (letter_is_plain (slice_index bs 0) letter) stops in
    let same : slice_index (drop n bs) 0 ≡ slice_index bs n = get_or-drop n bs 0 0 ∙ ap (slice_index bs) (let k : n + 0 ≡ n = omega arith in k) in
    let begun = ascii_begun bs Word some (letter_is_ascii (slice_index bs 0) letter) (sym (letter_opens (slice_index bs 0) letter)) in
    let none = word_ends (slice_index (drop n bs) 0) ascii (ap not (ap is_plain same ∙ stops less)) (other_than (slice_index (drop n bs) 0) other) in
    token_is bs n Word (word_kind (take n bs))
    (run_ends bs Word n begun (plain_run bs 1 (omega arith) (λ k below. all k (omega arith))) (plain_run bs n (omega arith) all) more less ascii none)
    refl

-- a number that another ASCII character ends
pub number_is : (bs : List ℕ) (n : ℕ) → 0 < length bs → is_ascii_digit (slice_index bs 0) ≡ true
    → ((k : ℕ) → k < n → is_ascii_digit (slice_index bs k) ≡ true) → (n < length bs → is_ascii_digit (slice_index bs n) ≡ false)
    → n < length bs → slice_index (drop n bs) 0 < 128 → IsToken bs (token_of n kinds.Number)
number_is bs n some digit all stops less ascii =
    let more : 0 < n = some_passes n bs is_ascii_digit some digit stops in
    let same : slice_index (drop n bs) 0 ≡ slice_index bs n = get_or-drop n bs 0 0 ∙ ap (slice_index bs) (let k : n + 0 ≡ n = omega arith in k) in
    let begun = ascii_begun bs Number some (digit_is_ascii (slice_index bs 0) digit) (sym (digit_opens (slice_index bs 0) digit)) in
    let none = number_ends (slice_index (drop n bs) 0) (ap not (ap is_ascii_digit same ∙ stops less)) in
    token_is bs n Number kinds.Number
    (run_ends bs Number n begun (digit_run bs 1 (omega arith) (λ k below. all k (omega arith))) (digit_run bs n (omega arith) all) more less ascii none)
    refl

whole_sign : (sign : Sign) → ((c : Option ℕ) → sign_goes_on sign c ≡ None) → (c : Option ℕ) → goes_on (pieces_are.Sign sign) c ≡ None
unfolding goes_on
whole_sign sign none c = none c

-- a sign that goes on with no symbol
pub sign_is : (bs : List ℕ) (sign : Sign) → 0 < length bs → IsWholeSign (slice_index bs 0) sign → IsToken bs (token_of 1 (kinds.Sign sign))
sign_is bs sign some whole =
    token_is bs 1 (pieces_are.Sign sign) (kinds.Sign sign)
    (whole_first bs (piece_of 1 (pieces_are.Sign sign)) (ascii_begun bs (pieces_are.Sign sign) some whole.ascii (sym whole.is)) (whole_sign sign whole.ends))
    refl

-- ---- tokens that neither end a statement nor are bad

word_is_good : (text : List ℕ) → is_bad_kind (word_kind text) ≡ false
unfolding word_kind
word_is_good text = elim (keyword_of text) as (λ o. is_bad_kind (word_kind_of o (begins_the text)) ≡ false) [
  | Some keyword ↦ refl
  | None ↦ (elim (begins_the text) as (λ b. is_bad_kind (if b then kinds.Component else kinds.Name) ≡ false) [ true ↦ refl | false ↦ refl ])
]

pub ordinary_word : (bs : List ℕ) (n : ℕ) → IsWord bs n → IsOrdinary bs n
ordinary_word bs n word = record { kind = word_kind (take n bs); good = word_is_good (take n bs); unended = word_is_none (take n bs); token = word }

pub ordinary_number : (bs : List ℕ) (n : ℕ) → IsToken bs (token_of n kinds.Number) → IsOrdinary bs n
ordinary_number bs n number = record { kind = kinds.Number; good = refl; unended = refl; token = number }

pub ordinary_sign : (bs : List ℕ) (sign : Sign) → 0 < length bs → IsWholeSign (slice_index bs 0) sign → is_end (kinds.Sign sign) ≡ false → IsOrdinary bs 1
ordinary_sign bs sign some whole unended = record { kind = kinds.Sign sign; good = refl; unended = unended; token = sign_is bs sign some whole }
