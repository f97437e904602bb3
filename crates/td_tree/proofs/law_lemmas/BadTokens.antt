-- Of the tokens of a script the grammar sees as bad just those whose kind is bad.
use Rattle.std.proofs.Common.{◌≡◌, ◌≢◌, ◌<◌, ℕ, List, [], ◌∷◌, ◌++◌, refl, sym, ap, ◌∙◌, subst, Bool, true, false, Option, Some, None, ◌&&◌, map, drop, arith}
use Rattle.std.specs.Prelude.{◌==◌, not, is_some, option_and_then, if◌then◌else◌}
use Rattle.std.specs.Char.{is_ascii_digit}
use Rattle.std.specs.List.{list_all}
use Rattle.std.specs.Str.{chars, is_utf8}
use Rattle.std.proofs.Math.Utf8.{encode, encodes, scalars}
use lib.Pointwise.{pointwise}
use Rattle.std.proofs.lemmas.Bool.Decides.{nat_tests}
use Rattle.std.proofs.lemmas.Str.{chars-encodes, is_utf8-from_IsUtf8, encode_ascii}
use Rattle.td_tree.specs.declared.keyword.Keyword.{Keyword}
use Rattle.td_tree.specs.declared.piece.Piece.{Piece}
use Rattle.td_tree.specs.declared.piece.Piece.TheVariants as pieces_are
use Rattle.td_tree.specs.declared.token.Kind.{Kind}
use Rattle.td_tree.specs.declared.token.Kind.TheVariants as kinds
use Rattle.td_tree.specs.model.Keywords.{keyword_of}
use Rattle.td_tree.specs.model.Lexemes as lexeme
use Rattle.td_tree.specs.model.Names.{is_name, is_word, is_word_start, is_word_more, begins_the}
use Rattle.td_tree.specs.model.Numbers.{decimal_value}
use Rattle.td_tree.specs.model.Pieces.{kind_after, kind_of, state, passes, text_kind, word_kind, word_kind_of}
use Rattle.td_tree.specs.laws.Spellings.{characters}
use Rattle.td_tree.specs.model.Symbols.{Symbol, symbols, spell}
use Rattle.td_tree.specs.model.TextTokens.{content, text_in_quotes}
use Rattle.td_tree.specs.laws.Spans.{AreOfTheirKind}
use Rattle.td_tree.specs.model.Statements.{PlacedToken, tokens}
use Rattle.td_tree.specs.model.TokenLexemes.{is_the_word, is_quoted_text, lexeme_of}
use Rattle.td_tree.specs.laws.TokenLaws.{AreBadWhereSeen, AreSymbols, IsFront}
use Rattle.td_tree.proofs.law_lemmas.CharacterLaws.{both}
use Rattle.td_tree.proofs.law_lemmas.DecodeLaws.{are_symbols}
use Rattle.td_tree.proofs.law_lemmas.KindLaws.{as_spelled}
use Rattle.td_tree.proofs.law_lemmas.QuotedLaws.{are_quoted}
use Rattle.td_tree.proofs.law_lemmas.SliceLaws.{kinds as are_of_their_kind}
use Rattle.td_tree.proofs.code_lemmas.StableBytes.{spelled}
use Rattle.td_tree.proofs.law_lemmas.TextTokenLaws.{content_quoted}

-- ---- symbols that are all characters

-- these pass the test, and each is a character
record AllCharacters (test : ℕ → Bool) (os : List (Option ℕ)) : Type 0 where
  characters_are : List ℕ
  is : os ≡ map Some characters_are
  pass : list_all test characters_are ≡ true

all_characters : (test : ℕ → Bool) (os : List (Option ℕ)) → list_all (passes test) os ≡ true → AllCharacters test os
all_characters test [] e = record { characters_are = []; is = refl; pass = refl }
all_characters test (None ∷ os) e = absurd cc
all_characters test (Some c ∷ os) e =
    let w = both (test c) (list_all (passes test) os) e in
    let r = all_characters test os w.1 in
    record { characters_are = c ∷ r.characters_are; is = ap (λ x. Some c ∷ x) r.is; pass = ap (λ b. b && list_all test r.characters_are) w.0 ∙ r.pass }

-- such symbols spell UTF-8
spells_characters : (ss : List Symbol) (bs cs : List ℕ) → AreSymbols ss bs → characters ss ≡ map Some cs → (bs ≡ encodes cs) × (scalars cs ≡ true)
spells_characters [] bs [] are e = (are, refl)
spells_characters [] bs (c ∷ cs) are e = absurd cc
spells_characters (s ∷ ss) bs [] are e = absurd cc
spells_characters (s ∷ ss) bs (c ∷ cs) are e =
    let head : s.character ≡ Some c = cc in
    let tail : characters ss ≡ map Some cs = cc in
    let front : IsFront (Some c) s.text bs = subst (λ o. IsFront o s.text bs) head are.2 in
    let others = spells_characters ss are.0 cs are.3 tail in
    (are.1 ∙ ap (λ t. t ++ are.0) front.1 ∙ ap (λ r. encode c ++ r) others.0, ap (λ b. b && scalars cs) front.0 ∙ others.1)

-- bytes whose symbols are these characters
record IsText (t cs : List ℕ) : Type 0 where
  utf8 : is_utf8 t ≡ true
  characters_are : chars t ≡ cs

text_of : (t cs : List ℕ) → characters (symbols t) ≡ map Some cs → IsText t cs
text_of t cs e =
    let w = spells_characters (symbols t) t cs (are_symbols t) e in
    record { utf8 = is_utf8-from_IsUtf8 t (cs, (w.1, sym w.0)); characters_are = ap chars w.0 ∙ chars-encodes cs w.1 }

-- ---- each piece

word_text : (t : List ℕ) → state (symbols t) ≡ Some pieces_are.Word → (is_utf8 t ≡ true) × (is_word (chars t) ≡ true)
word_text t is = from (characters (symbols t)) refl ((as_spelled (symbols t) pieces_are.Word).0 is)
  where
    from : (os : List (Option ℕ)) → characters (symbols t) ≡ os → Rattle.td_tree.specs.laws.Spellings.is_word_spelled os ≡ true → (is_utf8 t ≡ true) × (is_word (chars t) ≡ true)
    from [] same e = absurd cc
    from (None ∷ os) same e = absurd cc
    from (Some c ∷ os) same e =
        let w = both (is_word_start c) (list_all (passes is_word_more) os) e in
        let r = all_characters is_word_more os w.1 in
        let h = text_of t (c ∷ r.characters_are) (same ∙ ap (λ x. Some c ∷ x) r.is) in
        (h.utf8, ap is_word h.characters_are ∙ ap (λ b. b && list_all is_word_more r.characters_are) w.0 ∙ r.pass)

digit_low : (c : ℕ) → is_ascii_digit c ≡ true → c < 128
digit_low c e = grind (arith, nat_tests)

digits_themselves : (cs : List ℕ) → list_all is_ascii_digit cs ≡ true → encodes cs ≡ cs
digits_themselves [] e = refl
digits_themselves (c ∷ cs) e =
    let w = both (is_ascii_digit c) (list_all is_ascii_digit cs) e in
    ap (λ x. x ++ encodes cs) (encode_ascii c (digit_low c w.0)) ∙ ap (λ r. c ∷ r) (digits_themselves cs w.1)

number_text : (t : List ℕ) → state (symbols t) ≡ Some pieces_are.Number → list_all is_ascii_digit t ≡ true
number_text t is = from (characters (symbols t)) refl ((as_spelled (symbols t) pieces_are.Number).0 is)
  where
    from : (os : List (Option ℕ)) → characters (symbols t) ≡ os → Rattle.td_tree.specs.laws.Spellings.is_number_spelled os ≡ true → list_all is_ascii_digit t ≡ true
    from [] same e = absurd cc
    from (o ∷ os) same e =
        let r = all_characters is_ascii_digit (o ∷ os) e in
        let w = spells_characters (symbols t) t r.characters_are (are_symbols t) (same ∙ r.is) in
        ap (list_all is_ascii_digit) (w.0 ∙ digits_themselves r.characters_are r.pass) ∙ r.pass

same_all : (bs : List ℕ) → pointwise ◌==◌ bs bs ≡ true
same_all [] = refl
same_all (b ∷ bs) = ap (λ t. t && pointwise ◌==◌ bs bs) (let e : (b == b) ≡ true = grind (arith, nat_tests) in e) ∙ same_all bs

quoted_test : (t : List ℕ) → kind_of (symbols t) ≡ Some kinds.Text → is_quoted_text t ≡ true
quoted_test t is =
    let h = (are_quoted t).0 is in
    ap is_quoted_text h.is
    ∙ ap (λ c. is_utf8 c && pointwise ◌==◌ (text_in_quotes c) (text_in_quotes h.said)) (content_quoted h.said)
    ∙ ap (λ b. b && pointwise ◌==◌ (text_in_quotes h.said) (text_in_quotes h.said)) (is_utf8-from_IsUtf8 h.said h.utf8)
    ∙ same_all (text_in_quotes h.said)

-- ---- tokens

-- where the grammar sees the token as bad it is
abbrev IsBadWhereSeen : List ℕ → Kind → Type 0
IsBadWhereSeen t kind = lexeme_of kind t ≡ lexeme.bad → kind ≡ kinds.Bad

passed : (b : Bool) (x : lexeme.Lexeme) (kind : Kind) → b ≡ true → x ≢ lexeme.bad → (if b then x else lexeme.bad) ≡ lexeme.bad → kind ≡ kinds.Bad
passed true x kind is good e = absurd (good e)
passed false x kind is good e = absurd cc

word_seen : (t : List ℕ) (o : Option Keyword) (the : Bool) → state (symbols t) ≡ Some pieces_are.Word → keyword_of t ≡ o → begins_the t ≡ the → IsBadWhereSeen t (word_kind_of o the)
unfolding is_name
word_seen t (Some k) the is one two e = absurd cc
word_seen t None true is one two e =
    let w = word_text t is in
    passed (is_the_word t) (lexeme.component (drop 4 t)) kinds.Component
    (ap (λ b. b && is_word (chars t) && begins_the t) w.0 ∙ ap (λ b. b && begins_the t) w.1 ∙ two) (λ f. absurd cc) e
word_seen t None false is one two e =
    let w = word_text t is in
    passed (is_utf8 t && is_name t) (lexeme.name t) kinds.Name
    (ap (λ b. b && is_name t) w.0 ∙ ap (λ b. b && not (is_some (keyword_of t)) && not (begins_the t)) w.1
    ∙ ap (λ o. not (is_some o) && not (begins_the t)) one ∙ ap not two) (λ f. absurd cc) e

piece_seen : (piece : Piece) (t : List ℕ) (kind : Kind) → state (symbols t) ≡ Some piece → kind_of (symbols t) ≡ Some kind → kind_after piece t ≡ Some kind → IsBadWhereSeen t kind
unfolding word_kind
piece_seen pieces_are.Word t kind is same e =
    subst (IsBadWhereSeen t) (let k : word_kind_of (keyword_of t) (begins_the t) ≡ kind = cc in k) (word_seen t (keyword_of t) (begins_the t) is refl refl)
piece_seen pieces_are.Number t kind is same e =
    subst (IsBadWhereSeen t) (let k : kinds.Number ≡ kind = cc in k) (passed (list_all is_ascii_digit t) (lexeme.number (decimal_value t)) kinds.Number (number_text t is) (λ f. absurd cc))
piece_seen (pieces_are.Sign s) t kind is same e = subst (IsBadWhereSeen t) (let k : kinds.Sign s ≡ kind = cc in k) (λ f. absurd cc)
piece_seen pieces_are.Text t kind is same e = λ f. text_seen t kind same f (let k : text_kind t ≡ kind = cc in k)
  where
    text_seen : (t : List ℕ) (kind : Kind) → kind_of (symbols t) ≡ Some kind → lexeme_of kind t ≡ lexeme.bad → text_kind t ≡ kind → kind ≡ kinds.Bad
    text_seen t kinds.Text same f k = passed (is_quoted_text t) (lexeme.text (content t)) kinds.Text (quoted_test t same) (λ g. absurd cc) f
    text_seen t kinds.Bad same f k = refl
    text_seen t kind same f k = (elim (is_utf8 t) as (λ b. (if b then kinds.Text else kinds.Bad) ≡ kind → kind ≡ kinds.Bad) [ true ↦ λ g. absurd cc | false ↦ λ g. sym g ]) k
piece_seen pieces_are.Blank t kind is same e = absurd cc
piece_seen pieces_are.LineComment t kind is same e = absurd cc
piece_seen pieces_are.Comment t kind is same e = absurd cc
piece_seen _ t kind is same e = λ f. (let k : kinds.Bad ≡ kind = cc in sym k)

pub bad_where_seen : (t : List ℕ) (kind : Kind) → kind_of (symbols t) ≡ Some kind → IsBadWhereSeen t kind
bad_where_seen t kind same =
    (elim (state (symbols t)) as (λ o. state (symbols t) ≡ o → option_and_then (λ piece. kind_after piece (spell (symbols t))) o ≡ Some kind → IsBadWhereSeen t kind) [
      | None ↦ λ is e. absurd cc
      | Some piece ↦ λ is e. piece_seen piece t kind is same (ap (kind_after piece) (sym (spelled 0 t)) ∙ e)
    ]) refl same

seen_in : (ts : List PlacedToken) → AreOfTheirKind ts → AreBadWhereSeen ts
seen_in [] are = tt
seen_in (t ∷ ts) are = ((bad_where_seen t.text t.kind are.0, λ e. ap (λ k. lexeme_of k t.text) e), seen_in ts are.1)

-- the grammar sees the bad tokens of a script as bad, and no other
pub seen : (at : ℕ) (bytes : List ℕ) → AreBadWhereSeen (tokens at bytes)
seen at bytes = seen_in (tokens at bytes) (are_of_their_kind at bytes)
