-- The text of a tree that some tokens spell has tokens that spell it.
use Rattle.std.proofs.Common.{◌≡◌, ℕ, ◌+◌, List, [], ◌∷◌, ◌++◌, length, refl, sym, ap, ◌∙◌, subst, Bool, true, false, IsUtf8, ◌&&◌, codes, drop, map, arith}
use Rattle.std.specs.Prelude.{◌==◌, if◌then◌else◌}
use Rattle.std.specs.Char.{is_ascii_digit}
use Rattle.std.specs.List.{list_all}
use Rattle.std.specs.Str.{chars, is_utf8}
use lib.Pointwise.{pointwise}
use Rattle.std.proofs.lemmas.Bool.Decides.{nat_tests}
use Rattle.std.proofs.lemmas.Str.{IsUtf8-from_is_utf8, is_utf8-from_IsUtf8}
use Rattle.td_tree.specs.declared.operator.Level.{Level}
use Rattle.td_tree.specs.declared.token.Kind.{Kind}
use Rattle.td_tree.specs.declared.token.Kind.TheVariants as kinds
use Rattle.td_tree.specs.model.Grammar.{TypeSpelling, IsExpression}
use Rattle.td_tree.specs.model.Lexemes.{Lexeme, printed_text, spaced_text}
use Rattle.td_tree.specs.model.Lexemes as lexeme
use Rattle.td_tree.specs.model.Names.{is_name, is_word, begins_the}
use Rattle.td_tree.specs.model.Numbers.{decimal_value}
use Rattle.td_tree.specs.model.Prints.{lexemes_of, type_lexemes, print, type_print}
use Rattle.td_tree.specs.laws.Spaced.{AreItsOwnLexemes, AreItsOwnTypeLexemes, IsSpaced, PrintIsSpaced, TypePrintIsSpaced, texts_of, with_spaces}
use Rattle.td_tree.specs.model.Statements.{PlacedToken, tokens}
use Rattle.td_tree.specs.model.TextTokens.{content, text_in_quotes}
use Rattle.td_tree.specs.model.TokenLexemes.{is_the_word, is_quoted_text, lexeme_of, lexemes}
use Rattle.td_tree.specs.model.Trees.{Tree, TypeTree}
use Rattle.td_tree.proofs.law_lemmas.CharacterLaws.{both}
use Rattle.td_tree.proofs.law_lemmas.OtherTexts.{number_stands, decimal_again, decimal_digits, sign_stands, text_stands}
use Rattle.td_tree.proofs.law_lemmas.OwnLexemes.{expression_is, type_is}
use Rattle.td_tree.proofs.law_lemmas.PlainLexemes.{IsPlain, AllPlain, also, plain, plain_type}
use Rattle.td_tree.proofs.law_lemmas.TextTokenLaws.{content_quoted}
use Rattle.td_tree.proofs.law_lemmas.SpacedLaws.{Stands, token_before_space, last_token}
use Rattle.td_tree.proofs.law_lemmas.TheWords.{StandsBehindThe, behind_the}
use Rattle.td_tree.proofs.law_lemmas.WordTexts.{keyword_stands, name_stands, component_stands}

-- ---- what the tokens of a script are

-- what the lexeme of a token is, numbers and bad tokens aside
abbrev pub IsProper : Lexeme → Type 0
IsProper (lexeme.name n) = IsUtf8 n × (is_name n ≡ true)
IsProper (lexeme.component rest) = StandsBehindThe rest
IsProper (lexeme.text said) = IsUtf8 said
IsProper _ = Unit {0}

abbrev AllProper : List Lexeme → Type 0
AllProper [] = Unit {0}
AllProper (x ∷ xs) = IsProper x × AllProper xs

where_it_holds : (b : Bool) (x : Lexeme) → (b ≡ true → IsProper x) → IsProper (if b then x else lexeme.bad)
where_it_holds true x h = h refl
where_it_holds false x h = tt

proper : (kind : Kind) (t : List ℕ) → IsProper (lexeme_of kind t)
proper (kinds.Reserved k) t = tt
proper kinds.Component t = where_it_holds (is_the_word t) (lexeme.component (drop 4 t)) (behind_the t)
proper kinds.Name t = where_it_holds (is_utf8 t && is_name t) (lexeme.name t) (λ e. (let w = both (is_utf8 t) (is_name t) e in (IsUtf8-from_is_utf8 t w.0, w.1)))
proper kinds.Number t = where_it_holds (list_all is_ascii_digit t) (lexeme.number (decimal_value t)) (λ e. tt)
proper kinds.Text t = where_it_holds (is_quoted_text t) (lexeme.text (content t)) (λ e. IsUtf8-from_is_utf8 (content t) (both (is_utf8 (content t)) (pointwise ◌==◌ (text_in_quotes (content t)) t) e).0)
proper (kinds.Sign s) t = tt
proper kinds.Bad t = tt

all_proper : (ts : List PlacedToken) → AllProper (lexemes ts)
all_proper [] = tt
all_proper (t ∷ ts) = (proper t.kind t.text, all_proper ts)

-- ---- a printed lexeme is its own token

pub record Prints (l : Lexeme) : Type 0 where
  pub kind : Kind
  pub stands : Stands (printed_text l) kind
  pub same : lexeme_of kind (printed_text l) ≡ l

the_same : (b : Bool) (x : Lexeme) → b ≡ true → (if b then x else lexeme.bad) ≡ x
the_same true x e = refl
the_same false x e = absurd cc

the_word : (rest : List ℕ) → StandsBehindThe rest → is_the_word (codes "THE_" ++ rest) ≡ true
the_word rest h = ap (λ b. b && is_word (chars (codes "THE_" ++ rest)) && begins_the (codes "THE_" ++ rest)) (is_utf8-from_IsUtf8 (codes "THE_" ++ rest) h.utf8)
    ∙ ap (λ b. b && begins_the (codes "THE_" ++ rest)) h.word

quoted_again : (said : List ℕ) → IsUtf8 said → is_quoted_text (text_in_quotes said) ≡ true
quoted_again said utf8 =
    ap (λ c. is_utf8 c && pointwise ◌==◌ (text_in_quotes c) (text_in_quotes said)) (content_quoted said)
    ∙ ap (λ b. b && pointwise ◌==◌ (text_in_quotes said) (text_in_quotes said)) (is_utf8-from_IsUtf8 said utf8)
    ∙ same_all (text_in_quotes said)
  where
    same_all : (bs : List ℕ) → pointwise ◌==◌ bs bs ≡ true
    same_all [] = refl
    same_all (b ∷ bs) = ap (λ t. t && pointwise ◌==◌ bs bs) (let e : (b == b) ≡ true = grind (arith, nat_tests) in e) ∙ same_all bs

pub prints : (l : Lexeme) → IsPlain l → IsProper l → Prints l
prints (lexeme.keyword k) p q = record { kind = kinds.Reserved k; stands = keyword_stands k; same = refl }
prints (lexeme.sign s) p q = record { kind = kinds.Sign s; stands = sign_stands s; same = refl }
prints (lexeme.name n) p q = record {
  kind = kinds.Name;
  stands = name_stands n q.0 q.1;
  same = the_same (is_utf8 n && is_name n) (lexeme.name n) (ap (λ b. b && is_name n) (is_utf8-from_IsUtf8 n q.0) ∙ q.1);
}
prints (lexeme.component rest) p q = record {
  kind = kinds.Component;
  stands = component_stands rest q.utf8 q.word;
  same = the_same (is_the_word (codes "THE_" ++ rest)) (lexeme.component rest) (the_word rest q);
}
prints (lexeme.number n) p q = record {
  kind = kinds.Number;
  stands = number_stands n p;
  same = the_same (list_all is_ascii_digit (printed_text (lexeme.number n))) (lexeme.number (decimal_value (printed_text (lexeme.number n)))) (decimal_digits n p) ∙ ap lexeme.number (decimal_again n p);
}
prints (lexeme.text said) p q = record {
  kind = kinds.Text;
  stands = text_stands said q;
  same = the_same (is_quoted_text (text_in_quotes said)) (lexeme.text (content (text_in_quotes said))) (quoted_again said q) ∙ ap lexeme.text (content_quoted said);
}
prints lexeme.bad p q = absurd p

-- ---- a text of lexemes has these as its tokens

abbrev seen : PlacedToken → Lexeme
seen token = lexeme_of token.kind token.text

again : (ls : List Lexeme) (at : ℕ) → AllPlain ls → AllProper ls → lexemes (tokens at (spaced_text ls)) ≡ ls
unfolding tokens
again [] at p q = refl
again (l ∷ []) at (also p ps) q =
    let w = prints l p q.0 in
    ap lexemes (last_token (printed_text l) w.kind at w.stands) ∙ ap (λ x. x ∷ []) w.same
again (l ∷ m ∷ ls) at (also p ps) q =
    let w = prints l p q.0 in
    ap lexemes (token_before_space (printed_text l) (spaced_text (m ∷ ls)) w.kind at w.stands)
    ∙ ap (λ x. x ∷ lexemes (tokens (at + length (printed_text l) + 1) (spaced_text (m ∷ ls)))) w.same
    ∙ ap (λ r. l ∷ r) (again (m ∷ ls) (at + length (printed_text l) + 1) ps q.1)

-- the text of an expression that some tokens spell
pub print_spells : (level : Level) (ts : List PlacedToken) (t : Tree) → IsExpression level (lexemes ts) t → IsExpression level (lexemes (tokens 0 (print t))) t
print_spells level ts t h =
    let own : lexemes ts ≡ lexemes_of t = expression_is h.spelled in
    let same : lexemes (tokens 0 (print t)) ≡ lexemes_of t = again (lexemes_of t) 0 (subst AllPlain own (plain h.spelled)) (subst AllProper own (all_proper ts)) in
    subst (λ xs. IsExpression level xs t) (own ∙ sym same) h

-- the text of a type that some tokens spell
pub type_print_spells : (ts : List PlacedToken) (t : TypeTree) → TypeSpelling (lexemes ts) t → TypeSpelling (lexemes (tokens 0 (type_print t))) t
type_print_spells ts t h =
    let own : lexemes ts ≡ type_lexemes t = type_is h in
    let same : lexemes (tokens 0 (type_print t)) ≡ type_lexemes t = again (type_lexemes t) 0 (subst AllPlain own (plain_type h)) (subst AllProper own (all_proper ts)) in
    subst (λ xs. TypeSpelling xs t) (own ∙ sym same) h

-- ---- the text of a tree is its own tokens with one space between

pub own_lexemes : AreItsOwnLexemes
own_lexemes level xs t p = expression_is p

pub own_type_lexemes : AreItsOwnTypeLexemes
own_type_lexemes xs t p = type_is p

-- the bytes of the tokens of a text of lexemes are what is printed of each
texts_again : (ls : List Lexeme) (at : ℕ) → AllPlain ls → AllProper ls → texts_of (tokens at (spaced_text ls)) ≡ map printed_text ls
unfolding tokens
texts_again [] at p q = refl
texts_again (l ∷ []) at (also p ps) q =
    let w = prints l p q.0 in
    ap texts_of (last_token (printed_text l) w.kind at w.stands)
texts_again (l ∷ m ∷ ls) at (also p ps) q =
    let w = prints l p q.0 in
    ap texts_of (token_before_space (printed_text l) (spaced_text (m ∷ ls)) w.kind at w.stands)
    ∙ ap (λ r. printed_text l ∷ r) (texts_again (m ∷ ls) (at + length (printed_text l) + 1) ps q.1)

printed_with_spaces : (ls : List Lexeme) → spaced_text ls ≡ with_spaces (map printed_text ls)
printed_with_spaces [] = refl
printed_with_spaces (l ∷ []) = refl
printed_with_spaces (l ∷ m ∷ ls) = ap (λ r. printed_text l ++ 32 ∷ r) (printed_with_spaces (m ∷ ls))

is_spaced : (ls : List Lexeme) → AllPlain ls → AllProper ls → IsSpaced (spaced_text ls) ls
is_spaced ls p q = record { tokens_are = again ls 0 p q; text_is = printed_with_spaces ls ∙ sym (ap with_spaces (texts_again ls 0 p q)) }

-- tokens that are the lexemes of a tree
tokens_spaced : (ts : List PlacedToken) (ls : List Lexeme) → lexemes ts ≡ ls → AllPlain (lexemes ts) → IsSpaced (spaced_text ls) (lexemes ts)
tokens_spaced ts ls own p = subst (λ xs. IsSpaced (spaced_text xs) (lexemes ts)) own (is_spaced (lexemes ts) p (all_proper ts))

pub print_is_spaced : PrintIsSpaced
print_is_spaced level ts t h = tokens_spaced ts (lexemes_of t) (expression_is h.spelled) (plain h.spelled)

pub type_print_is_spaced : TypePrintIsSpaced
type_print_is_spaced ts t h = tokens_spaced ts (type_lexemes t) (type_is h) (plain_type h)
