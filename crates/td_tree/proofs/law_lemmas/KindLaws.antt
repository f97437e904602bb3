-- What the pieces of each kind are, in the language's own words.
use Rattle.std.proofs.Common.{◌≡◌, ℕ, List, [], ◌∷◌, ◌++◌, refl, sym, ap, ◌∙◌, subst, arith, Bool, true, false, Option, Some, None, if◌then◌else◌, ◌⊎◌, inl, inr, append-nil, ◌↔◌}
use Rattle.std.specs.Prelude.{◌==◌, ◌&&◌}
use Rattle.std.specs.Char.{is_ascii_digit}
use Rattle.std.specs.List.{list_all}
use Rattle.std.proofs.lemmas.Bool.Decides.{nat_tests}
use Rattle.td_tree.specs.declared.piece.Piece.{Piece}
use Rattle.td_tree.specs.declared.piece.Piece.TheVariants.{Blank, Word, Number, Bar, OpenText, Text, LineComment, OpenComment, StarredComment, Comment, Bad}
use Rattle.td_tree.specs.declared.piece.Piece.TheVariants as pieces_are
use Rattle.td_tree.specs.declared.token.Sign.{Sign}
use Rattle.td_tree.specs.declared.token.Sign.TheVariants as signs
use Rattle.td_tree.specs.model.Names.{is_word_start, is_word_more}
use Rattle.td_tree.specs.model.Pieces.{opens, goes_on, sign_at, sign_goes_on, sign_or_word, is_blank, is_character, passes, state}
use Rattle.td_tree.specs.laws.Spellings.{characters, is_word_spelled, is_number_spelled, is_blank_spelled, spelling, bar, quote, IsBadSpelled, IsSpelled}
use Rattle.td_tree.specs.model.Symbols.{Symbol}
use Rattle.td_tree.proofs.law_lemmas.CommentLaws.{comment_is, comment_state, line_comment_is, line_comment_state, open_comment_state, starred_comment_state}
use Rattle.td_tree.proofs.law_lemmas.RunLaws.{run, spelled_state, state_characters, same_number, same_character, both, stays, goes_through, ends_here}
use Rattle.td_tree.proofs.law_lemmas.TextLaws.{text_is, text_state, open_text_state}
use Rattle.td_tree.proofs.law_lemmas.WordStarts.{start_no_blank, start_no_digit, start_no_quote, start_no_bar, start_no_sign}

-- ---- signs

-- one of a list of tests
one_of : (P : Sign → Type 0) (c k : ℕ) (a s : Sign) (rest : Option Sign) → (c ≡ k → P a) → (rest ≡ Some s → P s) → (if c == k then Some a else rest) ≡ Some s → P s
one_of P c k a s rest this others =
    (elim (c == k) as (λ b. (c == k) ≡ b → (if b then Some a else rest) ≡ Some s → P s) [
      | true ↦ λ is found. let same : a ≡ s = cc in subst P same (this (same_number c k is))
      | false ↦ λ is found. others found
    ]) refl

abbrev IsIn : ℕ → Sign → Type 0
IsIn c s = spelling s ≡ Some c ∷ []

only : (c k : ℕ) (a s : Sign) (rest : Option Sign) → spelling a ≡ Some k ∷ [] → (rest ≡ Some s → IsIn c s) → (if c == k then Some a else rest) ≡ Some s → IsIn c s
only c k a s rest spelled = one_of (IsIn c) c k a s rest (λ is. spelled ∙ ap (λ n. Some n ∷ []) (sym is))

sign_at_is : (c : ℕ) (s : Sign) → sign_at c ≡ Some s → IsIn c s
unfolding sign_at
sign_at_is c s =
    only c 123 signs.OpenBrace s _ refl (only c 125 signs.CloseBrace s _ refl (only c 40 signs.OpenParenthesis s _ refl (only c 41 signs.CloseParenthesis s _ refl
    (only c 44 signs.Comma s _ refl (only c 59 signs.Semicolon s _ refl (only c 58 signs.Colon s _ refl (only c 61 signs.Equal s _ refl
    (only c 60 signs.Less s _ refl (only c 62 signs.Greater s _ refl (only c 43 signs.Plus s _ refl (only c 45 signs.Minus s _ refl
    (only c 42 signs.Times s _ refl (only c 47 signs.Divide s _ refl (λ e. absurd cc))))))))))))))

-- a longer sign, which no character makes longer still
record IsLonger (a : Sign) (c : Option ℕ) (t : Piece) : Type 0 where
  sign : Sign
  is : t ≡ pieces_are.Sign sign
  spelled : spelling sign ≡ spelling a ++ c ∷ []
  whole : (d : Option ℕ) → goes_on (pieces_are.Sign sign) d ≡ None

-- a comment begins
record IsBegun (a : Sign) (c : Option ℕ) (t : Piece) : Type 0 where
  divide : a ≡ signs.Divide
  so : ((c ≡ Some 47) × (t ≡ LineComment)) ⊎ ((c ≡ Some 42) × (t ≡ OpenComment))

GoesOn : Sign → Option ℕ → Piece → Type 0
GoesOn a c t = IsLonger a c t ⊎ IsBegun a c t

-- one of a list of tests, of a piece
next_of : (P : Piece → Type 0) (c : Option ℕ) (k : ℕ) (u t : Piece) (rest : Option Piece) → (c ≡ Some k → P u) → (rest ≡ Some t → P t) → (if is_character k c then Some u else rest) ≡ Some t → P t
next_of P c k u t rest this others =
    (elim (is_character k c) as (λ b. is_character k c ≡ b → (if b then Some u else rest) ≡ Some t → P t) [
      | true ↦ λ is found. let same : u ≡ t = cc in subst P same (this (same_character k c is))
      | false ↦ λ is found. others found
    ]) refl

longer_is : (a : Sign) (c : Option ℕ) (t : Piece) → sign_goes_on a c ≡ Some t → GoesOn a c t
unfolding sign_goes_on goes_on GoesOn
longer_is signs.Colon c t = next_of (GoesOn signs.Colon c) c 61 (pieces_are.Sign signs.Assign) t _
    (λ is. inl (record { sign = signs.Assign; is = refl; spelled = ap (λ d. Some 58 ∷ d ∷ []) (sym is); whole = λ d. refl })) (λ e. absurd cc)
longer_is signs.Less c t = next_of (GoesOn signs.Less c) c 61 (pieces_are.Sign signs.LessOrEqual) t _
    (λ is. inl (record { sign = signs.LessOrEqual; is = refl; spelled = ap (λ d. Some 60 ∷ d ∷ []) (sym is); whole = λ d. refl }))
    (next_of (GoesOn signs.Less c) c 62 (pieces_are.Sign signs.NotEqual) t _
    (λ is. inl (record { sign = signs.NotEqual; is = refl; spelled = ap (λ d. Some 60 ∷ d ∷ []) (sym is); whole = λ d. refl })) (λ e. absurd cc))
longer_is signs.Greater c t = next_of (GoesOn signs.Greater c) c 61 (pieces_are.Sign signs.GreaterOrEqual) t _
    (λ is. inl (record { sign = signs.GreaterOrEqual; is = refl; spelled = ap (λ d. Some 62 ∷ d ∷ []) (sym is); whole = λ d. refl })) (λ e. absurd cc)
longer_is signs.Divide c t = next_of (GoesOn signs.Divide c) c 47 LineComment t _
    (λ is. inr (record { divide = refl; so = inl (is, refl) }))
    (next_of (GoesOn signs.Divide c) c 42 OpenComment t _ (λ is. inr (record { divide = refl; so = inr (is, refl) })) (λ e. absurd cc))
longer_is _ c t = λ e. absurd cc

-- ---- what a symbol begins

Begins : Piece → Option ℕ → Type 0
Begins Word c = passes is_word_start c ≡ true
Begins Number c = passes is_ascii_digit c ≡ true
Begins Blank c = passes is_blank c ≡ true
Begins (pieces_are.Sign a) c = spelling a ≡ c ∷ []
Begins Bar c = c ≡ Some 124
Begins OpenText c = c ≡ Some 39
Begins Bad c = Unit {0}
Begins _ c = ⊥

or_else : (b : Bool) (t rest : Piece) (c : Option ℕ) → (b ≡ true → Begins t c) → Begins rest c → Begins (if b then t else rest) c
or_else true t rest c this others = this refl
or_else false t rest c this others = others

sign_or_word_is : (k : ℕ) → Begins (sign_or_word (sign_at k) (is_word_start k)) (Some k)
unfolding Begins
sign_or_word_is k =
    (elim (sign_at k) as (λ o. sign_at k ≡ o → Begins (sign_or_word o (is_word_start k)) (Some k)) [
      | Some s ↦ λ e. sign_at_is k s e
      | None ↦ λ e. or_else (is_word_start k) Word Bad (Some k) (λ starts. starts) tt
    ]) refl

opens_is : (c : Option ℕ) → Begins (opens c) c
unfolding opens Begins
opens_is None = tt
opens_is (Some k) =
    or_else (is_blank k) Blank _ (Some k) (λ e. e) (or_else (is_ascii_digit k) Number _ (Some k) (λ e. e)
    (or_else (k == 39) OpenText _ (Some k) (λ e. ap Some (same_number k 39 e)) (or_else (k == 124) Bar _ (Some k) (λ e. ap Some (same_number k 124 e)) (sign_or_word_is k))))

-- ---- what is spelled so is such a piece

-- the piece that a character begins, by what it passes
abbrev opened : Bool → Bool → Bool → Bool → Option Sign → Bool → Piece
opened blank digit quotes bars sign starts =
    if blank then Blank else (if digit then Number else (if quotes then OpenText else (if bars then Bar else sign_or_word sign starts)))

opens_word : (c : ℕ) → is_word_start c ≡ true → opens (Some c) ≡ Word
unfolding opens
opens_word c e =
    let blank = start_no_blank c e in
    let digit = start_no_digit c e in
    let quotes = start_no_quote c e in
    let bars = start_no_bar c e in
    let sign = start_no_sign c e in
    λ i. opened (blank i) (digit i) (quotes i) (bars i) (sign i) (e i)

opens_number : (c : ℕ) → is_ascii_digit c ≡ true → opens (Some c) ≡ Number
unfolding opens
opens_number c e =
    let blank : is_blank c ≡ false = (elim (is_blank c) as (λ b. is_blank c ≡ b → b ≡ false) [ true ↦ λ s. absurd (grind (arith, nat_tests)) | false ↦ λ s. refl ]) refl in
    λ i. opened (blank i) (e i) (c == 39) (c == 124) (sign_at c) (is_word_start c)

opens_blank : (c : ℕ) → is_blank c ≡ true → opens (Some c) ≡ Blank
unfolding opens
opens_blank c e = λ i. opened (e i) (is_ascii_digit c) (c == 39) (c == 124) (sign_at c) (is_word_start c)

stays_word : (c : Option ℕ) → goes_on Word c ≡ (if passes is_word_more c then Some Word else None)
unfolding goes_on
stays_word c = refl

stays_number : (c : Option ℕ) → goes_on Number c ≡ (if passes is_ascii_digit c then Some Number else None)
unfolding goes_on
stays_number c = refl

word_state : (cs : List (Option ℕ)) → is_word_spelled cs ≡ true → spelled_state cs ≡ Some Word
word_state [] e = absurd cc
word_state (None ∷ cs) e = absurd cc
word_state (Some c ∷ cs) e =
    let w = both (is_word_start c) (list_all (passes is_word_more) cs) e in
    ap (λ t. run (Some t) cs) (opens_word c w.0) ∙ goes_through Word (passes is_word_more) stays_word cs w.1

number_state : (cs : List (Option ℕ)) → is_number_spelled cs ≡ true → spelled_state cs ≡ Some Number
number_state [] e = absurd cc
number_state (None ∷ cs) e = absurd cc
number_state (Some c ∷ cs) e =
    let w = both (is_ascii_digit c) (list_all (passes is_ascii_digit) cs) e in
    ap (λ t. run (Some t) cs) (opens_number c w.0) ∙ goes_through Number (passes is_ascii_digit) stays_number cs w.1

none_left : (cs : List (Option ℕ)) → list_all (passes (λ c. false)) cs ≡ true → cs ≡ []
none_left [] e = refl
none_left (None ∷ cs) e = absurd cc
none_left (Some c ∷ cs) e = absurd cc

blank_state : (cs : List (Option ℕ)) → is_blank_spelled cs ≡ true → spelled_state cs ≡ Some Blank
blank_state [] e = absurd cc
blank_state (None ∷ cs) e = absurd cc
blank_state (Some c ∷ cs) e =
    let w = both (is_blank c) (list_all (passes (λ d. false)) cs) e in
    ap (λ r. spelled_state (Some c ∷ r)) (none_left cs w.1) ∙ ap Some (opens_blank c w.0)

sign_state : (s : Sign) → spelled_state (spelling s) ≡ Some (pieces_are.Sign s)
unfolding opens goes_on sign_at sign_goes_on
sign_state signs.Assign = refl
sign_state signs.NotEqual = refl
sign_state signs.LessOrEqual = refl
sign_state signs.GreaterOrEqual = refl
sign_state signs.Concatenate = refl
sign_state signs.OpenBrace = refl
sign_state signs.CloseBrace = refl
sign_state signs.OpenParenthesis = refl
sign_state signs.CloseParenthesis = refl
sign_state signs.Comma = refl
sign_state signs.Semicolon = refl
sign_state signs.Colon = refl
sign_state signs.Equal = refl
sign_state signs.Less = refl
sign_state signs.Greater = refl
sign_state signs.Plus = refl
sign_state signs.Minus = refl
sign_state signs.Times = refl
sign_state signs.Divide = refl

bar_state : spelled_state bar ≡ Some Bar
unfolding opens
bar_state = refl

quote_state : spelled_state quote ≡ Some OpenText
unfolding opens
quote_state = refl

one_blank : (c : Option ℕ) → passes is_blank c ≡ true → is_blank_spelled (c ∷ []) ≡ true
one_blank c e = ap (λ b. b && true) e

one_word : (c : Option ℕ) → passes is_word_start c ≡ true → is_word_spelled (c ∷ []) ≡ true
one_word c e = ap (λ b. b && true) e

one_number : (c : Option ℕ) → passes is_ascii_digit c ≡ true → is_number_spelled (c ∷ []) ≡ true
one_number c e = ap (λ b. b && true) e

-- a symbol that begins none of the others is bad
bad_left : (t : Piece) (c : Option ℕ) → Begins t c → IsBadSpelled (c ∷ []) → t ≡ Bad
unfolding Begins
bad_left Word c e bad = absurd (bad.no_word (one_word c e))
bad_left Number c e bad = absurd (bad.no_number (one_number c e))
bad_left Blank c e bad = absurd (bad.no_blank (one_blank c e))
bad_left (pieces_are.Sign a) c e bad = absurd (bad.no_sign a (sym e))
bad_left Bar c e bad = absurd (bad.no_bar (ap (λ d. d ∷ []) e))
bad_left OpenText c e bad = absurd (bad.no_quote (ap (λ d. d ∷ []) e))
bad_left Bad c e bad = refl
bad_left _ c e bad = absurd e

bad_state : (cs : List (Option ℕ)) → IsBadSpelled cs → spelled_state cs ≡ Some Bad
bad_state cs bad =
    let one : IsBadSpelled (bad.symbol ∷ []) = subst IsBadSpelled bad.one bad in
    ap spelled_state bad.one ∙ ap Some (bad_left (opens bad.symbol) bad.symbol (opens_is bad.symbol) one)

spelled_is : (v : Piece) (cs : List (Option ℕ)) → IsSpelled v cs → spelled_state cs ≡ Some v
spelled_is Blank cs h = blank_state cs h
spelled_is Word cs h = word_state cs h
spelled_is Number cs h = number_state cs h
spelled_is (pieces_are.Sign s) cs h = ap spelled_state h ∙ sign_state s
spelled_is Bar cs h = ap spelled_state h ∙ bar_state
spelled_is OpenText cs h = open_text_state cs h
spelled_is Text cs h = text_state cs h
spelled_is LineComment cs h = line_comment_state cs h
spelled_is OpenComment cs h = open_comment_state cs h
spelled_is StarredComment cs h = starred_comment_state cs h
spelled_is Comment cs h = comment_state cs h
spelled_is Bad cs h = bad_state cs h

-- ---- such a piece is spelled so

bad_is : (c : Option ℕ) → spelled_state (c ∷ []) ≡ Some Bad → IsBadSpelled (c ∷ [])
bad_is c e = record {
  symbol = c;
  one = refl;
  no_blank = λ h. (let wrong : Some Bad ≡ Some Blank = sym e ∙ blank_state (c ∷ []) h in absurd cc);
  no_word = λ h. (let wrong : Some Bad ≡ Some Word = sym e ∙ word_state (c ∷ []) h in absurd cc);
  no_number = λ h. (let wrong : Some Bad ≡ Some Number = sym e ∙ number_state (c ∷ []) h in absurd cc);
  no_sign = λ s h. (let wrong : Some Bad ≡ Some (pieces_are.Sign s) = sym e ∙ ap spelled_state h ∙ sign_state s in absurd cc);
  no_bar = λ h. (let wrong : Some Bad ≡ Some Bar = sym e ∙ ap spelled_state h ∙ bar_state in absurd cc);
  no_quote = λ h. (let wrong : Some Bad ≡ Some OpenText = sym e ∙ ap spelled_state h ∙ quote_state in absurd cc);
}

-- what a sign goes on to
after_sign : (a : Sign) (c : Option ℕ) (t v : Piece) (cs : List (Option ℕ)) → GoesOn a c t → run (Some t) cs ≡ Some v → IsSpelled v (spelling a ++ c ∷ cs)
unfolding GoesOn
after_sign a c t v cs (inl l) e =
    let w = ends_here (pieces_are.Sign l.sign) v cs l.whole (ap (λ p. run (Some p) cs) (sym l.is) ∙ e) in
    subst (λ p. IsSpelled p (spelling a ++ c ∷ cs)) (sym w.0) (ap (λ r. spelling a ++ c ∷ r) w.1 ∙ sym l.spelled)
after_sign a c t v cs (inr b) e = subst (λ s. IsSpelled v (spelling s ++ c ∷ cs)) (sym b.divide) (
    elim b.so as (λ _. IsSpelled v (Some 47 ∷ c ∷ cs)) [
      | inl line ↦ subst (λ d. IsSpelled v (Some 47 ∷ d ∷ cs)) (sym line.0) (line_comment_is v cs (ap (λ p. run (Some p) cs) (sym line.1) ∙ e))
      | inr block ↦ subst (λ d. IsSpelled v (Some 47 ∷ d ∷ cs)) (sym block.0) (comment_is v cs (ap (λ p. run (Some p) cs) (sym block.1) ∙ e))
    ])

sign_is : (a : Sign) (cs : List (Option ℕ)) (v : Piece) → run (Some (pieces_are.Sign a)) cs ≡ Some v → IsSpelled v (spelling a ++ cs)
unfolding goes_on
sign_is a [] v = λ e. (let same : pieces_are.Sign a ≡ v = cc in subst (λ p. IsSpelled p (spelling a ++ [])) same (append-nil (spelling a)))
sign_is a (c ∷ cs) v =
    (elim (sign_goes_on a c) as (λ o. sign_goes_on a c ≡ o → run o cs ≡ Some v → IsSpelled v (spelling a ++ c ∷ cs)) [
      | None ↦ λ is e. absurd cc
      | Some t ↦ λ is e. after_sign a c t v cs (longer_is a c t is) e
    ]) refl

bar_is : (cs : List (Option ℕ)) (v : Piece) → run (Some Bar) cs ≡ Some v → IsSpelled v (Some 124 ∷ cs)
unfolding goes_on sign_goes_on
bar_is [] v = λ e. (let same : Bar ≡ v = cc in subst (λ p. IsSpelled p bar) same (let spelled : bar ≡ bar = refl in spelled))
bar_is (c ∷ cs) v =
    (elim (is_character 124 c) as (λ b. is_character 124 c ≡ b → run (if b then Some (pieces_are.Sign signs.Concatenate) else None) cs ≡ Some v → IsSpelled v (Some 124 ∷ c ∷ cs)) [
      | true ↦ λ is e.
          let w = ends_here (pieces_are.Sign signs.Concatenate) v cs (λ d. refl) e in
          subst (λ p. IsSpelled p (Some 124 ∷ c ∷ cs)) (sym w.0) (ap (λ d. Some 124 ∷ d ∷ cs) (same_character 124 c is) ∙ ap (λ r. Some 124 ∷ Some 124 ∷ r) w.1)
      | false ↦ λ is e. absurd cc
    ]) refl

begun_is : (t v : Piece) (c : Option ℕ) (cs : List (Option ℕ)) → opens c ≡ t → Begins t c → run (Some t) cs ≡ Some v → IsSpelled v (c ∷ cs)
unfolding Begins goes_on
begun_is Word v c cs is e r =
    let w = stays Word (passes is_word_more) stays_word cs v r in
    subst (λ p. IsSpelled p (c ∷ cs)) (sym w.0) (ap (λ b. b && list_all (passes is_word_more) cs) e ∙ w.1)
begun_is Number v c cs is e r =
    let w = stays Number (passes is_ascii_digit) stays_number cs v r in
    subst (λ p. IsSpelled p (c ∷ cs)) (sym w.0) (ap (λ b. b && list_all (passes is_ascii_digit) cs) e ∙ w.1)
begun_is Blank v c cs is e r =
    let w = ends_here Blank v cs (λ d. refl) r in
    subst (λ p. IsSpelled p (c ∷ cs)) (sym w.0) (subst (λ x. IsSpelled Blank (c ∷ x)) (sym w.1) (one_blank c e))
begun_is (pieces_are.Sign a) v c cs is e r = subst (λ x. IsSpelled v (x ++ cs)) e (sign_is a cs v r)
begun_is Bar v c cs is e r = subst (λ d. IsSpelled v (d ∷ cs)) (sym e) (bar_is cs v r)
begun_is OpenText v c cs is e r = subst (λ d. IsSpelled v (d ∷ cs)) (sym e) (text_is v cs r)
begun_is Bad v c cs is e r =
    let w = ends_here Bad v cs (λ d. refl) r in
    subst (λ p. IsSpelled p (c ∷ cs)) (sym w.0) (subst (λ x. IsSpelled Bad (c ∷ x)) (sym w.1) (bad_is c (ap Some is)))
begun_is _ v c cs is e r = absurd e

is_spelled : (v : Piece) (cs : List (Option ℕ)) → spelled_state cs ≡ Some v → IsSpelled v cs
is_spelled v [] e = absurd cc
is_spelled v (c ∷ cs) e = begun_is (opens c) v c cs refl (opens_is c) e

-- the machine leaves a piece so exactly where its characters spell it so
pub as_spelled : (p : List Symbol) (v : Piece) → (state p ≡ Some v) ↔ IsSpelled v (characters p)
as_spelled p v = (λ e. is_spelled v (characters p) (sym (state_characters p) ∙ e), λ h. state_characters p ∙ spelled_is v (characters p) h)
