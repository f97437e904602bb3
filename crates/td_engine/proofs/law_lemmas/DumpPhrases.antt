-- What the grammar sees of the parts of a dump's lines: each part as its own lexemes, before those of what follows.
use Rattle.std.proofs.Common.{◌≡◌, ℕ, List, [], ◌∷◌, ◌++◌, refl, ap, ◌+◌, ◌∙◌, subst, arith, append_assoc, Bool, true, false, drop, ◌&&◌, Some}
use Rattle.std.specs.Prelude.{◌==◌, if◌then◌else◌}
use Rattle.std.specs.Char.{is_ascii_digit}
use Rattle.std.specs.List.{list_all}
use Rattle.std.specs.Str.{is_utf8}
use Rattle.std.proofs.lemmas.Str.{IsUtf8-from_is_utf8}
use lib.Pointwise.{pointwise}
use Rattle.td_engine.specs.model.Legality.{IsSpelledExpression}
use Rattle.td_tree.specs.declared.keyword.Keyword.{Keyword}
use Rattle.td_tree.specs.declared.token.Kind.{Kind}
use Rattle.td_tree.specs.declared.token.Kind.TheVariants as kinds
use Rattle.td_tree.specs.declared.token.Sign.TheVariants as signs
use Rattle.td_tree.specs.model.Grammar.{loosest}
use Rattle.td_tree.specs.model.Keywords.{word_of}
use Rattle.td_tree.specs.model.Lexemes.{Lexeme, keyword, printed_text, sign, spaced_text}
use Rattle.td_tree.specs.model.Lexemes as lexeme
use Rattle.td_tree.specs.model.Names.{IsName, is_name}
use Rattle.td_tree.specs.model.Numbers.{decimal_value}
use Rattle.td_tree.specs.model.Pieces.{goes_on, opens}
use Rattle.td_tree.specs.model.Prints.{lexemes_of, print, type_lexemes}
use Rattle.td_tree.specs.model.Statements.{PlacedToken}
use Rattle.td_tree.specs.model.StatementGrammar.{ExpressionItem}
use Rattle.td_tree.specs.model.TextTokens.{content, text_in_quotes}
use Rattle.td_tree.specs.model.TokenLexemes.{is_quoted_text, is_the_word, lexeme_of, lexemes}
use Rattle.td_tree.specs.model.Trees.{Tree}
use Rattle.td_tree.specs.code.Written.{comma_lexeme_if}
use Rattle.td_tree.proofs.law_lemmas.ApartLaws.{ends_alone, next_token}
use Rattle.td_tree.proofs.law_lemmas.Boundaries.{IsBounded}
use Rattle.td_tree.proofs.law_lemmas.CharacterLaws.{both}
use Rattle.td_tree.proofs.law_lemmas.PlainLexemes.{AllPlain, IsPlain, also, plain}
use Rattle.td_tree.proofs.law_lemmas.PrintLaws.{IsProper, own_lexemes}
use Rattle.td_tree.proofs.law_lemmas.SeenLaws as seen_laws
use Rattle.td_tree.proofs.law_lemmas.SeenLaws.{IsSeen, lexeme_seen, seen_same, space_seen}
use Rattle.td_tree.proofs.law_lemmas.TheWords.{behind_the}
use Rattle.td_types.specs.model.Texts.{comma_if, type_text}
use Rattle.td_types.specs.model.Types.{IsType, Type'}
use Rattle.td_types.specs.laws.TypeTrees.{type_tree}
use Rattle.td_types.proofs.TypeSpellings.{comma_if_seen, type_seen}

-- the grammar sees these bytes as these lexemes, whatever follows them
pub record Shows (bytes : List ℕ) (xs : List Lexeme) : Type 0 where
  pub seen : (rest : List ℕ) (ls : List Lexeme) → IsSeen rest ls → IsSeen (bytes ++ rest) (xs ++ ls)

-- it does where a boundary follows them, or nothing
pub record ShowsBefore (bytes : List ℕ) (xs : List Lexeme) : Type 0 where
  pub seen : (rest : List ℕ) (ls : List Lexeme) → IsBounded rest → IsSeen rest ls → IsSeen (bytes ++ rest) (xs ++ ls)

-- they begin with a boundary, or are none before one
abbrev pub KeepsBounds : List ℕ → Type 0
KeepsBounds bytes = (rest : List ℕ) → IsBounded rest → IsBounded (bytes ++ rest)

-- they begin with a boundary
abbrev pub Bounds : List ℕ → Type 0
Bounds bytes = (rest : List ℕ) → IsBounded (bytes ++ rest)

-- ---- one part and the next

regrouped : (bs cs rest : List ℕ) (xs ys ls : List Lexeme) → IsSeen (bs ++ (cs ++ rest)) (xs ++ (ys ++ ls)) → IsSeen ((bs ++ cs) ++ rest) ((xs ++ ys) ++ ls)
regrouped bs cs rest xs ys ls seen =
    seen_same ((bs ++ cs) ++ rest) (bs ++ (cs ++ rest)) ((xs ++ ys) ++ ls) (xs ++ (ys ++ ls)) (append_assoc bs cs rest) (append_assoc xs ys ls) seen

pub shown_then : {bs cs : List ℕ} {xs ys : List Lexeme} → Shows bs xs → Shows cs ys → Shows (bs ++ cs) (xs ++ ys)
shown_then {bs} {cs} {xs} {ys} p q = record {
  seen = λ rest ls seen. regrouped bs cs rest xs ys ls (p.seen (cs ++ rest) (ys ++ ls) (q.seen rest ls seen));
}

pub shown_then_before : {bs cs : List ℕ} {xs ys : List Lexeme} → Shows bs xs → ShowsBefore cs ys → ShowsBefore (bs ++ cs) (xs ++ ys)
shown_then_before {bs} {cs} {xs} {ys} p q = record {
  seen = λ rest ls bounded seen. regrouped bs cs rest xs ys ls (p.seen (cs ++ rest) (ys ++ ls) (q.seen rest ls bounded seen));
}

pub before_then : {bs cs : List ℕ} {xs ys : List Lexeme} → ShowsBefore bs xs → Bounds cs → Shows cs ys → Shows (bs ++ cs) (xs ++ ys)
before_then {bs} {cs} {xs} {ys} p bounds q = record {
  seen = λ rest ls seen. regrouped bs cs rest xs ys ls (p.seen (cs ++ rest) (ys ++ ls) (bounds rest) (q.seen rest ls seen));
}

pub before_then_before : {bs cs : List ℕ} {xs ys : List Lexeme} → ShowsBefore bs xs → KeepsBounds cs → ShowsBefore cs ys → ShowsBefore (bs ++ cs) (xs ++ ys)
before_then_before {bs} {cs} {xs} {ys} p keeps q = record {
  seen = λ rest ls bounded seen. regrouped bs cs rest xs ys ls (p.seen (cs ++ rest) (ys ++ ls) (keeps rest bounded) (q.seen rest ls bounded seen));
}

pub anywhere : {bs : List ℕ} {xs : List Lexeme} → Shows bs xs → ShowsBefore bs xs
anywhere p = record { seen = λ rest ls bounded seen. p.seen rest ls seen }

-- lexemes that are the same
pub shows_these : {bs : List ℕ} {xs ys : List Lexeme} → xs ≡ ys → ShowsBefore bs xs → ShowsBefore bs ys
shows_these {bs} e p = subst (ShowsBefore bs) e p

pub nothing : Shows [] []
nothing = record { seen = λ rest ls seen. seen }

-- ---- blanks and signs

pub a_space : Shows (32 ∷ []) []
a_space = record { seen = λ rest ls seen. space_seen rest ls seen }

line_feed_seen : (rest : List ℕ) (ls : List Lexeme) → IsSeen rest ls → IsSeen (10 ∷ rest) ls
unfolding opens goes_on
line_feed_seen rest ls seen at = ap lexemes (next_token (opens (Some 10)) (10 ∷ []) rest at (ends_alone 10 rest (omega arith) (λ c. refl))) ∙ seen (at + 1)

pub a_line_feed : Shows (10 ∷ []) []
a_line_feed = record { seen = λ rest ls seen. line_feed_seen rest ls seen }

pub an_open_brace : Shows (123 ∷ []) (sign signs.OpenBrace ∷ [])
an_open_brace = record { seen = λ rest ls seen. seen_laws.open_brace_seen rest ls seen }

pub a_close_brace : Shows (125 ∷ []) (sign signs.CloseBrace ∷ [])
a_close_brace = record { seen = λ rest ls seen. seen_laws.close_brace_seen rest ls seen }

pub an_open_parenthesis : Shows (40 ∷ []) (sign signs.OpenParenthesis ∷ [])
an_open_parenthesis = record { seen = λ rest ls seen. seen_laws.open_parenthesis_seen rest ls seen }

pub a_close_parenthesis : Shows (41 ∷ []) (sign signs.CloseParenthesis ∷ [])
a_close_parenthesis = record { seen = λ rest ls seen. seen_laws.close_parenthesis_seen rest ls seen }

pub a_semicolon : Shows (59 ∷ []) (sign signs.Semicolon ∷ [])
a_semicolon = record { seen = λ rest ls seen. seen_laws.semicolon_seen rest ls seen }

pub a_comma_if : (later : Bool) → Shows (comma_if later) (comma_lexeme_if later)
a_comma_if later = record { seen = λ rest ls seen. comma_if_seen later rest ls seen }

-- ---- words, names and types

a_lexeme : (l : Lexeme) → IsPlain l → IsProper l → ShowsBefore (printed_text l) (l ∷ [])
a_lexeme l p q = record { seen = λ rest ls bounded seen. lexeme_seen l rest ls p q bounded seen }

a_word : (k : Keyword) → ShowsBefore (word_of k) (keyword k ∷ [])
a_word k = a_lexeme (keyword k) tt tt

-- a reserved word with a space behind it
pub a_word_and_space : (k : Keyword) → Shows (word_of k ++ (32 ∷ [])) (keyword k ∷ [])
a_word_and_space k = before_then (a_word k) (λ rest. refl) a_space

pub a_name : (n : List ℕ) → IsName n → ShowsBefore n (lexeme.name n ∷ [])
a_name n p = a_lexeme (lexeme.name n) tt (p.utf8, p.named)

pub a_type : (t : Type') → IsType t → ShowsBefore (type_text t) (type_lexemes (type_tree t))
a_type t p = record { seen = λ rest ls bounded seen. type_seen t p rest ls bounded seen }

-- ---- printed expressions

abbrev AllProper : List Lexeme → Type 0
AllProper [] = Unit {0}
AllProper (x ∷ xs) = IsProper x × AllProper xs

where_it_holds : (b : Bool) (x : Lexeme) → (b ≡ true → IsProper x) → IsProper (if b then x else lexeme.bad)
where_it_holds true x h = h refl
where_it_holds false x h = tt

proper : (kind : Kind) (t : List ℕ) → IsProper (lexeme_of kind t)
proper (kinds.Reserved k) t = tt
proper kinds.Component t = where_it_holds (is_the_word t) (lexeme.component (drop 4 t)) (behind_the t)
proper kinds.Name t =
    where_it_holds (is_utf8 t && is_name t) (lexeme.name t) (λ e. (let w = both (is_utf8 t) (is_name t) e in (IsUtf8-from_is_utf8 t w.0, w.1)))
proper kinds.Number t = where_it_holds (list_all is_ascii_digit t) (lexeme.number (decimal_value t)) (λ e. tt)
proper kinds.Text t =
    where_it_holds (is_quoted_text t) (lexeme.text (content t))
    (λ e. IsUtf8-from_is_utf8 (content t) (both (is_utf8 (content t)) (pointwise ◌==◌ (text_in_quotes (content t)) t) e).0)
proper (kinds.Sign s) t = tt
proper kinds.Bad t = tt

all_proper : (ts : List PlacedToken) → AllProper (lexemes ts)
all_proper [] = tt
all_proper (t ∷ ts) = (proper t.kind t.text, all_proper ts)

-- lexemes with a space between two
spaced_show : (xs : List Lexeme) → AllPlain xs → AllProper xs → ShowsBefore (spaced_text xs) xs
spaced_show [] p q = anywhere nothing
spaced_show (x ∷ []) (also p ps) q = a_lexeme x p q.0
spaced_show (x ∷ y ∷ xs) (also p ps) q =
    before_then_before (a_lexeme x p q.0) (λ rest bounded. refl) (shown_then_before a_space (spaced_show (y ∷ xs) ps q.1))

-- the lexemes of an expression that some tokens spell, which spell it too
pub own_expression : (e : Tree) → IsSpelledExpression e → ExpressionItem (lexemes_of e) e
own_expression e h = subst (λ xs. ExpressionItem xs e) (own_lexemes loosest (lexemes h.0) e h.1.spelled) h.1

pub a_print : (e : Tree) → IsSpelledExpression e → ShowsBefore (print e) (lexemes_of e)
a_print e h =
    let own : lexemes h.0 ≡ lexemes_of e = own_lexemes loosest (lexemes h.0) e h.1.spelled in
    spaced_show (lexemes_of e) (subst AllPlain own (plain h.1.spelled)) (subst AllProper own (all_proper h.0))
