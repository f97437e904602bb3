-- The bytes of a text in quotes are one piece, and no other bytes are a text.
use Rattle.std.proofs.Common.{◌≡◌, ℕ, ◌+◌, ◌-◌, ◌/◌, ◌≤◌, zero, suc, List, [], ◌∷◌, ◌++◌, length, refl, sym, ap, ◌∙◌, subst, arith, true, false, Option, Some, None, if◌then◌else◌, cond, ltb, append_assoc, append-nil, ◌↔◌}
use Rattle.std.specs.Prelude.{◌==◌, option_and_then}
use Rattle.std.specs.Str.{chars, is_utf8}
use Rattle.std.proofs.Math.Utf8.{encode}
use lib.Utf8.{next}
use Rattle.std.proofs.lemmas.List.{map-append}
use Rattle.std.proofs.lemmas.Str.{is_utf8-from_IsUtf8, IsUtf8-from_is_utf8}
use Rattle.td_tree.specs.declared.piece.Piece.{Piece}
use Rattle.td_tree.specs.declared.piece.Piece.TheVariants as pieces_are
use Rattle.td_tree.specs.declared.token.Kind.TheVariants as kinds
use Rattle.td_tree.specs.model.Keywords.{keyword_of}
use Rattle.td_tree.specs.model.Names.{begins_the}
use Rattle.td_tree.specs.model.Pieces.{is_character, kind_after, kind_of, state, text_kind, word_kind, word_kind_of}
use Rattle.td_tree.specs.laws.Spans.{AreOfTheirKind, AreTexts}
use Rattle.td_tree.specs.laws.Spellings.{characters, quote, quotes_doubled, IsText}
use Rattle.td_tree.specs.model.Statements.{PlacedToken, tokens}
use Rattle.td_tree.specs.model.Symbols.{Symbol, front_bytes, front_char, symbol_of, symbol_at, symbols_from, symbols, spell}
use Rattle.td_tree.specs.model.TextTokens.{with_quotes_doubled, text_in_quotes, IsQuotedText}
use Rattle.td_tree.proofs.law_lemmas.DecodeLaws.{found_is}
use Rattle.td_tree.proofs.law_lemmas.FrontLaws.{ascii_byte, ascii_bytes, ascii_char}
use Rattle.td_tree.proofs.law_lemmas.KindLaws.{as_spelled}
use Rattle.td_tree.proofs.law_lemmas.RunLaws.{same_number}
use Rattle.td_tree.proofs.law_lemmas.SliceLaws.{kinds as are_of_their_kind}
use Rattle.td_tree.proofs.code_lemmas.StableBytes.{spelled}
use Rattle.td_tree.proofs.law_lemmas.SymbolLaws.{symbols-append_ascii}
use Rattle.td_tree.proofs.law_lemmas.TextTokenLaws.{same_utf8}

-- ---- bytes without quotes

abbrev Bare : List ℕ → Type 0
Bare [] = Unit {0}
Bare (b ∷ bs) = ((b == 39) ≡ false) × Bare bs

bare_more : (xs : List ℕ) (b : ℕ) → Bare xs → (b == 39) ≡ false → Bare (xs ++ b ∷ [])
bare_more [] b bare e = (e, tt)
bare_more (x ∷ xs) b bare e = (bare.0, bare_more xs b bare.1 e)

bare_doubled : (xs ys : List ℕ) → Bare xs → with_quotes_doubled (xs ++ ys) ≡ xs ++ with_quotes_doubled ys
bare_doubled [] ys bare = refl
bare_doubled (x ∷ xs) ys bare = ap (λ v. if v then 39 ∷ 39 ∷ with_quotes_doubled (xs ++ ys) else x ∷ with_quotes_doubled (xs ++ ys)) bare.0 ∙ ap (λ r. x ∷ r) (bare_doubled xs ys bare.1)

high_bare : (b : ℕ) → 128 ≤ b → (b == 39) ≡ false
high_bare b high =
    (elim (b == 39) as (λ v. (b == 39) ≡ v → v ≡ false) [
      | true ↦ λ e. absurd (omega (arith, same_number b 39 e, high))
      | false ↦ λ e. refl
    ]) refl

-- a character that is no quote has no quote among its bytes
bare_encode : (c : ℕ) → (c == 39) ≡ false → Bare (encode c)
unfolding encode
bare_encode c other =
    elim (ltb c 128) as (λ t. Bare (cond t (c ∷ []) (cond (ltb c 2048) ((192 + c / 64) ∷ next c ∷ []) (cond (ltb c 65536) ((224 + c / 4096) ∷ next (c / 64) ∷ next c ∷ []) ((240 + c / 262144) ∷ next (c / 4096) ∷ next (c / 64) ∷ next c ∷ []))))) [
      | true ↦ (other, tt)
      | false ↦ elim (ltb c 2048) as (λ t. Bare (cond t ((192 + c / 64) ∷ next c ∷ []) (cond (ltb c 65536) ((224 + c / 4096) ∷ next (c / 64) ∷ next c ∷ []) ((240 + c / 262144) ∷ next (c / 4096) ∷ next (c / 64) ∷ next c ∷ [])))) [
        | true ↦ (high_bare (192 + c / 64) (omega arith), (high_bare (next c) (omega arith), tt))
        | false ↦ elim (ltb c 65536) as (λ t. Bare (cond t ((224 + c / 4096) ∷ next (c / 64) ∷ next c ∷ []) ((240 + c / 262144) ∷ next (c / 4096) ∷ next (c / 64) ∷ next c ∷ []))) [
          | true ↦ (high_bare (224 + c / 4096) (omega arith), (high_bare (next (c / 64)) (omega arith), (high_bare (next c) (omega arith), tt)))
          | false ↦ (high_bare (240 + c / 262144) (omega arith), (high_bare (next (c / 4096)) (omega arith), (high_bare (next (c / 64)) (omega arith), (high_bare (next c) (omega arith), tt))))
        ]
      ]
    ]

-- ---- symbols that are quotes

-- a symbol is a quote exactly where its byte is one
record IsQuoteOrBare (s : Symbol) : Type 0 where
  a_quote : s.character ≡ Some 39 → s.text ≡ 39 ∷ []
  other : is_character 39 s.character ≡ false → Bare s.text

not_both : (o : Option ℕ) (c : ℕ) → o ≡ None → o ≡ Some c → ⊥
not_both o c none some = absurd cc

no_quote : (b : ℕ) (bs : List ℕ) → front_char (b ∷ bs) ≡ None → (b == 39) ≡ false
no_quote b bs none =
    (elim (b == 39) as (λ v. (b == 39) ≡ v → v ≡ false) [
      | true ↦ λ e. absurd (not_both (front_char (b ∷ bs)) 39 none (ap (λ x. front_char (x ∷ bs)) (same_number b 39 e) ∙ ascii_char 39 bs (omega arith)))
      | false ↦ λ e. refl
    ]) refl

quote_at : (b : ℕ) (bs : List ℕ) → IsQuoteOrBare (symbol_at b bs)
quote_at b bs =
    (elim (front_char (b ∷ bs)) as (λ o. front_char (b ∷ bs) ≡ o → IsQuoteOrBare (symbol_of o (front_bytes (b ∷ bs)) b)) [
      | Some c ↦ λ is. record {
        a_quote = λ e. (let byte : b ≡ 39 = ascii_byte b bs 39 (omega arith) (is ∙ e) in ap (λ x. front_bytes (x ∷ bs)) byte ∙ ascii_bytes 39 bs (omega arith));
        other = λ e. subst Bare (sym (found_is b bs c is).1) (bare_encode c e);
      }
      | None ↦ λ is. record { a_quote = λ e. absurd cc; other = λ e. (no_quote b bs is, tt) }
    ]) refl

AllQuoteOrBare : List Symbol → Type 0
AllQuoteOrBare [] = Unit {0}
AllQuoteOrBare (s ∷ ss) = IsQuoteOrBare s × AllQuoteOrBare ss

quotes_in : (left : ℕ) (bs : List ℕ) → AllQuoteOrBare (symbols_from left bs)
unfolding AllQuoteOrBare
quotes_in zero [] = tt
quotes_in (suc left) [] = tt
quotes_in (suc left) (b ∷ bs) = quotes_in left bs
quotes_in zero (b ∷ bs) = (quote_at b bs, quotes_in (length (symbol_at b bs).text - 1) bs)

-- ---- the symbols of a text in quotes

BareCharacters : List (Option ℕ) → Type 0
BareCharacters [] = Unit {0}
BareCharacters (c ∷ cs) = (is_character 39 c ≡ false) × BareCharacters cs

bare_symbol : (b : ℕ) (bs : List ℕ) → (b == 39) ≡ false → is_character 39 (symbol_at b bs).character ≡ false
bare_symbol b bs bare =
    (elim (front_char (b ∷ bs)) as (λ o. front_char (b ∷ bs) ≡ o → is_character 39 (symbol_of o (front_bytes (b ∷ bs)) b).character ≡ false) [
      | Some c ↦ λ is. (elim (c == 39) as (λ v. (c == 39) ≡ v → v ≡ false) [
        | true ↦ λ e.
            let byte : b ≡ 39 = ascii_byte b bs 39 (omega arith) (is ∙ ap Some (same_number c 39 e)) in
            let wrong : true ≡ false = ap (λ x. x == 39) (sym byte) ∙ bare in absurd cc
        | false ↦ λ e. refl
      ]) refl
      | None ↦ λ is. refl
    ]) refl

bare_characters : (left : ℕ) (bs : List ℕ) → Bare bs → BareCharacters (characters (symbols_from left bs))
unfolding BareCharacters
bare_characters zero [] bare = tt
bare_characters (suc left) [] bare = tt
bare_characters (suc left) (b ∷ bs) bare = bare_characters left bs bare.1
bare_characters zero (b ∷ bs) bare = (bare_symbol b bs bare.0, bare_characters (length (symbol_at b bs).text - 1) bs bare.1)

bare_quotes : (cs ds : List (Option ℕ)) → BareCharacters cs → quotes_doubled (cs ++ ds) ≡ cs ++ quotes_doubled ds
unfolding BareCharacters
bare_quotes [] ds bare = refl
bare_quotes (c ∷ cs) ds bare = ap (λ v. if v then quote ++ (quote ++ quotes_doubled (cs ++ ds)) else c ∷ quotes_doubled (cs ++ ds)) bare.0 ∙ ap (λ r. c ∷ r) (bare_quotes cs ds bare.1)

abbrev spelled_of : List ℕ → List (Option ℕ)
spelled_of bs = characters (symbols bs)

symbols_quote : (ys : List ℕ) → spelled_of (39 ∷ ys) ≡ Some 39 ∷ spelled_of ys
unfolding is_utf8 chars encode
symbols_quote ys = refl

at_quote : (xs ys : List ℕ) → spelled_of (xs ++ 39 ∷ ys) ≡ spelled_of xs ++ Some 39 ∷ spelled_of ys
at_quote xs ys =
    ap characters (symbols-append_ascii 0 xs ys 39 (omega arith) (omega arith))
    ∙ map-append (λ (s : Symbol). s.character) (symbols xs) (symbols (39 ∷ ys)) ∙ ap (λ r. spelled_of xs ++ r) (symbols_quote ys)

doubled_spelled : (said front : List ℕ) → Bare front → spelled_of (front ++ with_quotes_doubled said) ≡ quotes_doubled (spelled_of (front ++ said))
doubled_spelled [] front bare =
    let bare_front = bare_quotes (spelled_of front) [] (bare_characters 0 front bare) in
    ap spelled_of (append-nil front) ∙ sym (append-nil (spelled_of front)) ∙ sym bare_front ∙ ap quotes_doubled (append-nil (spelled_of front)) ∙ ap (λ f. quotes_doubled (spelled_of f)) (sym (append-nil front))
doubled_spelled (b ∷ bs) front bare =
    (elim (b == 39) as (λ v. (b == 39) ≡ v → spelled_of (front ++ (if v then 39 ∷ 39 ∷ with_quotes_doubled bs else b ∷ with_quotes_doubled bs)) ≡ quotes_doubled (spelled_of (front ++ b ∷ bs))) [
      | true ↦ λ is.
          at_quote front (39 ∷ with_quotes_doubled bs)
          ∙ ap (λ r. spelled_of front ++ Some 39 ∷ r) (symbols_quote (with_quotes_doubled bs) ∙ ap (λ r. Some 39 ∷ r) (doubled_spelled bs [] tt))
          ∙ sym (bare_quotes (spelled_of front) (Some 39 ∷ spelled_of bs) (bare_characters 0 front bare))
          ∙ ap quotes_doubled (sym (at_quote front bs))
          ∙ ap (λ x. quotes_doubled (spelled_of (front ++ x ∷ bs))) (sym (same_number b 39 is))
      | false ↦ λ is.
          ap spelled_of (sym (append_assoc front (b ∷ []) (with_quotes_doubled bs)))
          ∙ doubled_spelled bs (front ++ b ∷ []) (bare_more front b bare is)
          ∙ ap (λ f. quotes_doubled (spelled_of f)) (append_assoc front (b ∷ []) bs)
    ]) refl

quoted_spelled : (said : List ℕ) → spelled_of (text_in_quotes said) ≡ quote ++ (quotes_doubled (spelled_of said) ++ quote)
quoted_spelled said =
    symbols_quote (with_quotes_doubled said ++ 39 ∷ []) ∙ ap (λ r. Some 39 ∷ r) (at_quote (with_quotes_doubled said) [] ∙ ap (λ r. r ++ quote) (doubled_spelled said [] tt))

pub quoted_state : (said : List ℕ) → state (symbols (text_in_quotes said)) ≡ Some pieces_are.Text
quoted_state said =
    let text : IsText (characters (symbols (text_in_quotes said))) = record { said = spelled_of said; is = quoted_spelled said } in
    (as_spelled (symbols (text_in_quotes said)) pieces_are.Text).1 text

-- a text in quotes is one token: a text where it says UTF-8, else a bad one
pub quoted_kind : (said : List ℕ) → kind_of (symbols (text_in_quotes said)) ≡ Some (text_kind said)
quoted_kind said =
    ap (option_and_then (λ piece. kind_after piece (spell (symbols (text_in_quotes said))))) (quoted_state said)
    ∙ ap (λ t. Some (text_kind t)) (spelled 0 (text_in_quotes said)) ∙ ap (λ v. Some (if v then kinds.Text else kinds.Bad)) (same_utf8 said)

-- ---- the bytes of a text

-- the first symbols spell doubled bytes
record Begun (ss : List Symbol) (back : List (Option ℕ)) : Type 0 where
  said : List ℕ
  rest : List Symbol
  is : spell ss ≡ with_quotes_doubled said ++ spell rest
  left : characters rest ≡ back
  all : AllQuoteOrBare rest

begun_other : (s : Symbol) (ss : List Symbol) (back : List (Option ℕ)) → Bare s.text → Begun ss back → Begun (s ∷ ss) back
begun_other s ss back bare w = record {
  said = s.text ++ w.said;
  rest = w.rest;
  is = ap (λ r. s.text ++ r) w.is ∙ sym (append_assoc s.text (with_quotes_doubled w.said) (spell w.rest)) ∙ ap (λ r. r ++ spell w.rest) (sym (bare_doubled s.text w.said bare));
  left = w.left;
  all = w.all;
}

begun_quotes : (s t : Symbol) (ss : List Symbol) (back : List (Option ℕ)) → s.text ≡ 39 ∷ [] → t.text ≡ 39 ∷ [] → Begun ss back → Begun (s ∷ t ∷ ss) back
begun_quotes s t ss back one two w = record {
  said = 39 ∷ w.said;
  rest = w.rest;
  is = ap (λ r. r ++ (t.text ++ spell ss)) one ∙ ap (λ r. 39 ∷ (r ++ spell ss)) two ∙ ap (λ r. 39 ∷ 39 ∷ r) w.is;
  left = w.left;
  all = w.all;
}

begun_by : (cs back : List (Option ℕ)) (ss : List Symbol) → characters ss ≡ quotes_doubled cs ++ back → AllQuoteOrBare ss → Begun ss back
unfolding AllQuoteOrBare
begun_by [] back ss = λ e all. record { said = []; rest = ss; is = refl; left = e; all = all }
begun_by (c ∷ cs) back [] = (elim (is_character 39 c) as (λ v. [] ≡ (if v then quote ++ (quote ++ quotes_doubled cs) else c ∷ quotes_doubled cs) ++ back → Unit {0} → Begun [] back) [
  | true ↦ λ e all. absurd cc
  | false ↦ λ e all. absurd cc
])
begun_by (c ∷ cs) back (s ∷ []) =
    (elim (is_character 39 c) as (λ v. is_character 39 c ≡ v → s.character ∷ [] ≡ (if v then quote ++ (quote ++ quotes_doubled cs) else c ∷ quotes_doubled cs) ++ back → AllQuoteOrBare (s ∷ []) → Begun (s ∷ []) back) [
      | true ↦ λ is e all. absurd cc
      | false ↦ λ is e all.
          let head : s.character ≡ c = cc in
          let tail : [] ≡ quotes_doubled cs ++ back = cc in
          begun_other s [] back (all.0.other (ap (is_character 39) head ∙ is)) (begun_by cs back [] tail tt)
    ]) refl
begun_by (c ∷ cs) back (s ∷ t ∷ ss) =
    (elim (is_character 39 c) as (λ v. is_character 39 c ≡ v → s.character ∷ t.character ∷ characters ss ≡ (if v then quote ++ (quote ++ quotes_doubled cs) else c ∷ quotes_doubled cs) ++ back → AllQuoteOrBare (s ∷ t ∷ ss) → Begun (s ∷ t ∷ ss) back) [
      | true ↦ λ is e all.
          let one : s.character ≡ Some 39 = cc in
          let two : t.character ≡ Some 39 = cc in
          let tail : characters ss ≡ quotes_doubled cs ++ back = cc in
          begun_quotes s t ss back (all.0.a_quote one) (all.1.0.a_quote two) (begun_by cs back ss tail all.1.1)
      | false ↦ λ is e all.
          let head : s.character ≡ c = cc in
          let tail : t.character ∷ characters ss ≡ quotes_doubled cs ++ back = cc in
          begun_other s (t ∷ ss) back (all.0.other (ap (is_character 39) head ∙ is)) (begun_by cs back (t ∷ ss) tail all.1)
    ]) refl

last_is : (ss : List Symbol) → characters ss ≡ quote → AllQuoteOrBare ss → spell ss ≡ 39 ∷ []
unfolding AllQuoteOrBare
last_is [] e all = absurd cc
last_is (s ∷ []) e all = let head : s.character ≡ Some 39 = cc in ap (λ t. t ++ []) (all.0.a_quote head)
last_is (s ∷ t ∷ ss) e all = absurd cc

text_spell : (ss : List Symbol) → IsText (characters ss) → AllQuoteOrBare ss → (said : List ℕ) × (spell ss ≡ text_in_quotes said)
unfolding AllQuoteOrBare
text_spell [] text all = absurd (let e = text.is in cc)
text_spell (s ∷ ss) text all =
    let e = text.is in
    let head : s.character ≡ Some 39 = cc in
    let tail : characters ss ≡ quotes_doubled text.said ++ quote = cc in
    let w = begun_by text.said quote ss tail all.1 in
    (w.said, ap (λ t. t ++ spell ss) (all.0.a_quote head) ∙ ap (λ r. 39 ∷ r) (w.is ∙ ap (λ r. with_quotes_doubled w.said ++ r) (last_is w.rest w.left w.all)))

text_is_quoted : (text : List ℕ) → state (symbols text) ≡ Some pieces_are.Text → (said : List ℕ) × (text ≡ text_in_quotes said)
text_is_quoted text is =
    let w = text_spell (symbols text) ((as_spelled (symbols text) pieces_are.Text).0 is) (quotes_in 0 text) in
    (w.0, sym (spelled 0 text) ∙ w.1)

word_is_no_text : (text : List ℕ) → word_kind text ≡ kinds.Text → ⊥
unfolding word_kind
word_is_no_text text = elim (keyword_of text) as (λ o. word_kind_of o (begins_the text) ≡ kinds.Text → ⊥) [
  | Some keyword ↦ λ e. absurd cc
  | None ↦ (elim (begins_the text) as (λ b. (if b then kinds.Component else kinds.Name) ≡ kinds.Text → ⊥) [ true ↦ λ e. absurd cc | false ↦ λ e. absurd cc ])
]

text_piece : (t : Piece) (text : List ℕ) → kind_after t text ≡ Some kinds.Text → (t ≡ pieces_are.Text) × (text_kind text ≡ kinds.Text)
text_piece pieces_are.Text text e = (refl, (let kind : text_kind text ≡ kinds.Text = cc in kind))
text_piece pieces_are.Word text e = absurd (word_is_no_text text (let kind : word_kind text ≡ kinds.Text = cc in kind))
text_piece _ text e = absurd cc

text_utf8 : (text : List ℕ) → text_kind text ≡ kinds.Text → is_utf8 text ≡ true
text_utf8 text = elim (is_utf8 text) as (λ b. (if b then kinds.Text else kinds.Bad) ≡ kinds.Text → b ≡ true) [ true ↦ λ e. refl | false ↦ λ e. absurd cc ]

text_said : (text : List ℕ) → kind_of (symbols text) ≡ Some kinds.Text → IsQuotedText text
text_said text =
    (elim (state (symbols text)) as (λ o. state (symbols text) ≡ o → option_and_then (λ piece. kind_after piece (spell (symbols text))) o ≡ Some kinds.Text → IsQuotedText text) [
      | None ↦ λ is e. absurd cc
      | Some t ↦ λ is e.
          let kind = text_piece t (spell (symbols text)) e in
          let w = text_is_quoted text (is ∙ ap Some kind.0) in
          let valid : is_utf8 text ≡ true = ap is_utf8 (sym (spelled 0 text)) ∙ text_utf8 (spell (symbols text)) kind.1 in
          record { said = w.0; utf8 = IsUtf8-from_is_utf8 w.0 (sym (same_utf8 w.0) ∙ ap is_utf8 (sym w.1) ∙ valid); is = w.1 }
    ]) refl

quoted_text : (text : List ℕ) → IsQuotedText text → kind_of (symbols text) ≡ Some kinds.Text
quoted_text text q = ap (λ t. kind_of (symbols t)) q.is ∙ quoted_kind q.said ∙ ap (λ v. Some (if v then kinds.Text else kinds.Bad)) (is_utf8-from_IsUtf8 q.said q.utf8)

-- bytes are a text exactly where they are a text in quotes that says UTF-8
pub are_quoted : (text : List ℕ) → (kind_of (symbols text) ≡ Some kinds.Text) ↔ IsQuotedText text
are_quoted text = (text_said text, quoted_text text)

texts_in : (ts : List PlacedToken) → AreOfTheirKind ts → AreTexts ts
texts_in [] are = tt
texts_in (t ∷ ts) are = (λ e. text_said t.text (are.0 ∙ ap Some e), texts_in ts are.1)

-- so are the texts among the tokens
pub texts : (at : ℕ) (bytes : List ℕ) → AreTexts (tokens at bytes)
texts at bytes = texts_in (tokens at bytes) (are_of_their_kind at bytes)
