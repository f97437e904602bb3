-- Runs of bytes that leave a piece as it is.
use Rattle.std.proofs.Common.{◌≡◌, ℕ, ◌+◌, ◌<◌, ◌≤◌, zero, suc, List, [], ◌∷◌, ◌++◌, length, take, drop, refl, sym, ap, ◌∙◌, arith, Bool, true, false, Option, Some, None, if◌then◌else◌}
use Rattle.std.specs.Prelude.{◌==◌, ◌||◌, ◌&&◌, find, nat_eq, nat_lt, not, slice_index}
use Rattle.std.proofs.lemmas.Bool.Decides.{nat_tests}
use Rattle.std.specs.Char.{is_ascii_alphabetic, is_ascii_alphanumeric, is_ascii_digit, to_ascii_lowercase}
use Rattle.std.specs.List.{list_all}
use Rattle.std.specs.Str.{bytes_eq, str_eq_ignore_ascii_case, str_to_ascii_lowercase}
use Rattle.std.proofs.lemmas.Slice.Eq.{bytes_eq-Decides}
use Rattle.td_tree.specs.declared.keyword.Keyword.{Keyword}
use Rattle.td_tree.specs.declared.keyword.Keyword.TheVariants.{Add, Tuple}
use Rattle.td_tree.specs.declared.piece.Piece.{Piece}
use Rattle.td_tree.specs.declared.piece.Piece.TheVariants.{Bar, Blank, Word, Number, OpenText, Text, LineComment, OpenComment, StarredComment}
use Rattle.td_tree.specs.declared.token.Kind.TheVariants as kinds
use Rattle.td_tree.specs.declared.token.Sign.{Sign}
use Rattle.td_tree.specs.model.Keywords.{keyword_of, keywords, word_of}
use Rattle.td_tree.specs.model.Names.{begins_the, is_word_more, is_word_start}
use Rattle.td_tree.specs.model.Pieces.{goes_on, is_blank, opens, sign_at, sign_or_word, word_kind, word_kind_of}
use Rattle.td_tree.specs.model.Symbols.{Symbol, symbols}
use Rattle.td_tree.proofs.law_lemmas.SymbolLaws.{front_ascii}
use Rattle.td_tree.proofs.law_lemmas.WordStarts.{ascii_more, ascii_start, start_no_bar, start_no_blank, start_no_digit, start_no_quote, start_no_sign}
use Rattle.td_scan.specs.code.Fronts.{end_from, first_end}
use Rattle.td_scan.specs.declared.piece.First.{First}
use Rattle.td_scan.specs.code.Progress.{IsBegun, IsFirst}

abbrev symbol : Option ℕ → List ℕ → Symbol
symbol character text = record { character = character; text = text }

-- an ASCII byte at the front is a symbol, whatever follows the bytes
pub ascii_known : (bs : List ℕ) → 0 < length bs → slice_index bs 0 < 128 → (later : List ℕ)
    → symbols (bs ++ later) ≡ symbol (Some (slice_index bs 0)) (take 1 bs) ∷ symbols (drop 1 bs ++ later)
ascii_known [] some ascii later = absurd (omega arith)
ascii_known (b ∷ bs) some ascii later = front_ascii (b ∷ bs ++ later) (omega arith) ascii

-- a piece that goes on with no symbol ends here
pub whole : (piece : Piece) → ((c : Option ℕ) → goes_on piece c ≡ None) → (n : ℕ) (ss : List Symbol) → end_from n piece ss ≡ (n, piece)
whole piece none n [] = refl
whole piece none n (s ∷ ss) =
    ap (λ o. elim o as (λ _. ℕ × Piece) [ Some longer ↦ end_from (n + length s.text) longer ss | None ↦ (n, piece) ]) (none s.character)

-- and so is the first of the bytes
pub whole_first : (bs : List ℕ) (f : First) → IsBegun bs (Some f) → ((c : Option ℕ) → goes_on f.piece c ≡ None) → IsFirst bs f
whole_first bs f begun none =
    record {
      some = begun.some;
      within = begun.within;
      same = λ later. sym (begun.same later) ∙ whole f.piece none f.length (symbols (drop f.length bs ++ later));
    }

-- a byte that leaves the piece as it is
pub stays_one : (piece : Piece) (b : ℕ) (bs : List ℕ) (n : ℕ) → b < 128 → goes_on piece (Some b) ≡ Some piece
    → end_from n piece (symbols (b ∷ bs)) ≡ end_from (n + 1) piece (symbols bs)
stays_one piece b bs n ascii same =
    ap (end_from n piece) (front_ascii (b ∷ bs) (omega arith) ascii)
    ∙ ap (λ o. elim o as (λ _. ℕ × Piece) [ Some longer ↦ end_from (n + 1) longer (symbols bs) | None ↦ (n, piece) ]) same

-- one of the bytes leaves it as it is, whatever follows them
pub stays_more : (piece : Piece) (bs : List ℕ) (i n : ℕ) → i < length bs → slice_index bs i < 128 → goes_on piece (Some (slice_index bs i)) ≡ Some piece → (later : List ℕ)
    → end_from n piece (symbols (drop i bs ++ later)) ≡ end_from (n + 1) piece (symbols (drop (i + 1) bs ++ later))
stays_more piece [] i n inside ascii same later = absurd (omega arith)
stays_more piece (b ∷ bs) zero n inside ascii same later = stays_one piece b (bs ++ later) n ascii same
stays_more piece (b ∷ bs) (suc i) n inside ascii same later =
    stays_more piece bs i n (omega arith) ascii same later
    ∙ ap (λ k. end_from (n + 1) piece (symbols (drop k (b ∷ bs) ++ later))) (let e : suc (i + 1) ≡ suc i + 1 = omega arith in e)

-- so many bytes at the front leave the piece as it is, whatever follows
abbrev pub IsRun : Piece → List ℕ → ℕ → Type 0
IsRun piece bs n = (at : ℕ) (later : List ℕ) → end_from at piece (symbols (bs ++ later)) ≡ end_from (at + n) piece (symbols (drop n bs ++ later))

-- the byte there leaves the piece as it is
record StaysAt (piece : Piece) (bs : List ℕ) (k : ℕ) : Type 0 where
  ascii : slice_index bs k < 128
  same : goes_on piece (Some (slice_index bs k)) ≡ Some piece

run_more : (piece : Piece) (bs : List ℕ) (n : ℕ) → n ≤ length bs → ((k : ℕ) → k < n → StaysAt piece bs k) → IsRun piece bs n
run_more piece bs zero within stay at later =
    ap (λ k. end_from k piece (symbols (bs ++ later))) (let e : at ≡ at + 0 = omega arith in e)
run_more piece bs (suc n) within stay at later =
    let last = stay n (omega arith) in
    run_more piece bs n (omega arith) (λ k less. stay k (omega arith)) at later
    ∙ stays_more piece bs n (at + n) (omega arith) last.ascii last.same later
    ∙ ap (λ k. end_from k piece (symbols (drop (n + 1) bs ++ later))) (let e : at + n + 1 ≡ at + suc n = omega arith in e)
    ∙ ap (λ k. end_from (at + suc n) piece (symbols (drop k bs ++ later))) (let e : n + 1 ≡ suc n = omega arith in e)

-- ---- what each byte does

is_none : (b : Bool) → not b ≡ true → b ≡ false
is_none true wrong = absurd cc
is_none false is = refl

word_stays : (b : ℕ) → is_word_more b ≡ true → goes_on Word (Some b) ≡ Some Word
unfolding goes_on
word_stays b more = ap (λ t. if t then Some Word else None) more

or_more : (a u h : Bool) → (a || u) ≡ true → (a || u || u || h) ≡ true
or_more true u h is = refl
or_more false true h is = refl
or_more false false h is = absurd cc

or_none : (a u h : Bool) → not (a || u) ≡ true → not h ≡ true → (a || u || u || h) ≡ false
or_none true u h is other = absurd cc
or_none false true h is other = absurd cc
or_none false false true is other = absurd cc
or_none false false false is other = refl

-- a letter, a digit and `_` are ASCII
plain_ascii : (b : ℕ) → (is_ascii_alphanumeric b || (b == 95)) ≡ true → b < 128
plain_ascii b plain = grind (arith, nat_tests)

-- a word stays one with them
plain_stays : (b : ℕ) → (is_ascii_alphanumeric b || (b == 95)) ≡ true → goes_on Word (Some b) ≡ Some Word
plain_stays b plain =
    word_stays b (ascii_more b (plain_ascii b plain) ∙ or_more (is_ascii_alphanumeric b) (b == 95) (b == 35) plain)

-- and ends at another ASCII character but `#`
pub word_ends : (b : ℕ) → b < 128 → not (is_ascii_alphanumeric b || (b == 95)) ≡ true → not (b == 35) ≡ true → goes_on Word (Some b) ≡ None
unfolding goes_on
word_ends b ascii plain other =
    ap (λ t. if t then Some Word else None) (ascii_more b ascii ∙ or_none (is_ascii_alphanumeric b) (b == 95) (b == 35) plain other)

digit_stays : (b : ℕ) → is_ascii_digit b ≡ true → goes_on Number (Some b) ≡ Some Number
unfolding goes_on
digit_stays b digit = ap (λ t. if t then Some Number else None) digit

-- a text stays open but at a quote
text_stays : (b : ℕ) → (b == 39) ≡ false → goes_on OpenText (Some b) ≡ Some OpenText
unfolding goes_on
text_stays b other = ap (λ t. Some (if t then Text else OpenText)) other

-- a comment goes on to the end of the line
line_stays : (b : ℕ) → (b == 10) ≡ false → goes_on LineComment (Some b) ≡ Some LineComment
unfolding goes_on
line_stays b other = ap (λ t. if t then None else Some LineComment) other

-- or to a `*`
comment_stays : (b : ℕ) → (b == 42) ≡ false → goes_on OpenComment (Some b) ≡ Some OpenComment
unfolding goes_on
comment_stays b other = ap (λ t. Some (if t then StarredComment else OpenComment)) other

-- ---- runs of them

digit_ascii : (b : ℕ) → is_ascii_digit b ≡ true → b < 128
digit_ascii b digit = grind (arith, nat_tests)

pub plain_run : (bs : List ℕ) (n : ℕ) → n ≤ length bs → ((k : ℕ) → k < n → (is_ascii_alphanumeric (slice_index bs k) || (slice_index bs k == 95)) ≡ true) → IsRun Word bs n
plain_run bs n within all =
    run_more Word bs n within (λ k less. record { ascii = plain_ascii (slice_index bs k) (all k less); same = plain_stays (slice_index bs k) (all k less) })

pub digit_run : (bs : List ℕ) (n : ℕ) → n ≤ length bs → ((k : ℕ) → k < n → is_ascii_digit (slice_index bs k) ≡ true) → IsRun Number bs n
digit_run bs n within all =
    run_more Number bs n within (λ k less. record { ascii = digit_ascii (slice_index bs k) (all k less); same = digit_stays (slice_index bs k) (all k less) })

pub text_run : (bs : List ℕ) (n : ℕ) → n ≤ length bs → ((k : ℕ) → k < n → slice_index bs k < 128) → ((k : ℕ) → k < n → (slice_index bs k == 39) ≡ false) → IsRun OpenText bs n
text_run bs n within ascii other =
    run_more OpenText bs n within (λ k less. record { ascii = ascii k less; same = text_stays (slice_index bs k) (other k less) })

pub line_run : (bs : List ℕ) (n : ℕ) → n ≤ length bs → ((k : ℕ) → k < n → slice_index bs k < 128) → ((k : ℕ) → k < n → (slice_index bs k == 10) ≡ false) → IsRun LineComment bs n
line_run bs n within ascii other =
    run_more LineComment bs n within (λ k less. record { ascii = ascii k less; same = line_stays (slice_index bs k) (other k less) })

pub comment_run : (bs : List ℕ) (n : ℕ) → n ≤ length bs → ((k : ℕ) → k < n → slice_index bs k < 128) → ((k : ℕ) → k < n → (slice_index bs k == 42) ≡ false) → IsRun OpenComment bs n
comment_run bs n within ascii other =
    run_more OpenComment bs n within (λ k less. record { ascii = ascii k less; same = comment_stays (slice_index bs k) (other k less) })

-- ---- what ends a piece

pub number_ends : (b : ℕ) → not (is_ascii_digit b) ≡ true → goes_on Number (Some b) ≡ None
unfolding goes_on
number_ends b other = ap (λ t. if t then Some Number else None) (is_none (is_ascii_digit b) other)

pub text_ends : (b : ℕ) → not (b == 39) ≡ true → goes_on Text (Some b) ≡ None
unfolding goes_on
text_ends b other = ap (λ t. if t then Some OpenText else None) (is_none (b == 39) other)

pub line_ends : (b : ℕ) → (b == 10) ≡ true → goes_on LineComment (Some b) ≡ None
unfolding goes_on
line_ends b is = ap (λ t. if t then None else Some LineComment) is

-- an ASCII byte at the front ends the piece, whatever follows the bytes
pub ended : (piece : Piece) (bs : List ℕ) → 0 < length bs → slice_index bs 0 < 128 → goes_on piece (Some (slice_index bs 0)) ≡ None → (n : ℕ) (later : List ℕ)
    → end_from n piece (symbols (bs ++ later)) ≡ (n, piece)
ended piece bs some ascii none n later =
    ap (end_from n piece) (ascii_known bs some ascii later)
    ∙ ap (λ o. elim o as (λ _. ℕ × Piece) [ Some longer ↦ end_from (n + length (take 1 bs)) longer (symbols (drop 1 bs ++ later)) | None ↦ (n, piece) ]) none

-- ---- what a byte begins

-- a piece that an ASCII byte begins
pub ascii_begun : (bs : List ℕ) (piece : Piece) → 0 < length bs → slice_index bs 0 < 128 → piece ≡ opens (Some (slice_index bs 0)) → IsBegun bs (Some (record { length = 1; piece = piece }))
ascii_begun [] piece some ascii is = absurd (omega arith)
ascii_begun (b ∷ bs) piece some ascii is =
    record {
      some = omega arith;
      within = omega arith;
      same = λ later. ap (λ p. end_from 1 p (symbols (bs ++ later))) is ∙ sym (ap first_end (ascii_known (b ∷ bs) some ascii later));
    }

-- the piece that a character begins, by what it passes
abbrev opened : Bool → Bool → Bool → Bool → Option Sign → Bool → Piece
opened blank digit quotes bars sign starts =
    if blank then Blank else (if digit then Number else (if quotes then OpenText else (if bars then Bar else sign_or_word sign starts)))

opens_word : (c : ℕ) → is_word_start c ≡ true → opens (Some c) ≡ Word
unfolding opens
opens_word c e =
    let blank = start_no_blank c e in
    let digit = start_no_digit c e in
    let quotes = start_no_quote c e in
    let bars = start_no_bar c e in
    let sign = start_no_sign c e in
    λ i. opened (blank i) (digit i) (quotes i) (bars i) (sign i) (e i)

-- a letter or `_` begins a word
pub letter_opens : (b : ℕ) → (is_ascii_alphabetic b || (b == 95)) ≡ true → opens (Some b) ≡ Word
letter_opens b letter =
    let ascii : b < 128 = grind (arith, nat_tests) in
    opens_word b (ascii_start b ascii ∙ letter)

-- a digit begins a number
pub digit_opens : (b : ℕ) → is_ascii_digit b ≡ true → opens (Some b) ≡ Number
unfolding opens
digit_opens b digit =
    let blank : is_blank b ≡ false = grind (arith, nat_tests) in
    λ i. opened (blank i) (digit i) (b == 39) (b == 124) (sign_at b) (is_word_start b)

-- ---- what a word of one byte is

and_none : (a : Bool) → (a && false) ≡ false
and_none true = refl
and_none false = refl

-- a longer word is another
long_is_other : (w : List ℕ) (b : ℕ) → nat_lt 1 (length w) ≡ true → str_eq_ignore_ascii_case w (b ∷ []) ≡ false
long_is_other [] b long = absurd cc
long_is_other (x ∷ []) b long = absurd cc
long_is_other (x ∷ y ∷ w) b long = and_none (nat_eq (to_ascii_lowercase x) (to_ascii_lowercase b))

none_found : (ks : List Keyword) (b : ℕ) → list_all (λ k. nat_lt 1 (length (word_of k))) ks ≡ true → find (λ k. str_eq_ignore_ascii_case (word_of k) (b ∷ [])) ks ≡ None
none_found [] b = λ long. refl
none_found (k ∷ ks) b =
    (elim (nat_lt 1 (length (word_of k))) as (λ t. nat_lt 1 (length (word_of k)) ≡ t → (t && list_all (λ k. nat_lt 1 (length (word_of k))) ks) ≡ true
    → find (λ k. str_eq_ignore_ascii_case (word_of k) (b ∷ [])) (k ∷ ks) ≡ None) [
      | true ↦ λ is long. ap (λ t. if t then Some k else find (λ k. str_eq_ignore_ascii_case (word_of k) (b ∷ [])) ks) (long_is_other (word_of k) b is) ∙ none_found ks b long
      | false ↦ λ is long. absurd cc
    ]) refl

no_keyword : (b : ℕ) → keyword_of (b ∷ []) ≡ None
unfolding keyword_of
no_keyword b = none_found keywords b refl

-- a name
pub one_is_name : (text : List ℕ) → length text ≡ 1 → word_kind text ≡ kinds.Name
unfolding word_kind
one_is_name [] one = absurd (omega arith)
one_is_name (b ∷ []) one =
    ap (λ o. word_kind_of o (begins_the (b ∷ []))) (no_keyword b) ∙ ap (word_kind_of None) (and_none (nat_eq (to_ascii_lowercase b) 116))
one_is_name (b ∷ c ∷ text) one = absurd (omega arith)

-- ---- what a reserved word is

spells_itself : (k : Keyword) → keyword_of (word_of k) ≡ Some k
unfolding keyword_of
spells_itself Add = refl
spells_itself _ = refl

-- a reserved word in any ASCII case
pub is_reserved : (k : Keyword) (text : List ℕ) → str_eq_ignore_ascii_case (word_of k) text ≡ true → kinds.Reserved k ≡ word_kind text
unfolding word_kind keyword_of
is_reserved k text spelled =
    let lower : List ℕ = str_to_ascii_lowercase text in
    let same : str_to_ascii_lowercase (word_of k) ≡ lower = (bytes_eq-Decides (str_to_ascii_lowercase (word_of k)) lower).0 spelled in
    sym (ap (λ o. word_kind_of o (begins_the text)) (ap (λ t. find (λ j. bytes_eq (str_to_ascii_lowercase (word_of j)) t) keywords) (sym same) ∙ spells_itself k))

-- the reserved word of a tuple, byte by byte
pub tuple_word : (text : List ℕ) → length text ≡ 5 → slice_index text 0 ≡ 84 → slice_index text 1 ≡ 85 → slice_index text 2 ≡ 80 → slice_index text 3 ≡ 76 → slice_index text 4 ≡ 69
    → kinds.Reserved Tuple ≡ word_kind text
tuple_word (a ∷ (b ∷ (c ∷ (d ∷ (e ∷ []))))) five ea eb ec ed ee =
    let same : (a ∷ (b ∷ (c ∷ (d ∷ (e ∷ []))))) ≡ (84 ∷ (85 ∷ (80 ∷ (76 ∷ (69 ∷ []))))) = cc in
    is_reserved Tuple (a ∷ (b ∷ (c ∷ (d ∷ (e ∷ []))))) (ap (str_eq_ignore_ascii_case (word_of Tuple)) same)
tuple_word _ five ea eb ec ed ee = absurd cc
