-- What the grammar sees of a token, by its kind.
use Rattle.std.proofs.Common.{◌≡◌, ◌≤◌, ℕ, List, [], ◌∷◌, length, refl, Bool, true, false, Some, ◌&&◌, drop, IsUtf8, arith, length-append}
use Rattle.std.specs.Prelude.{if◌then◌else◌, ◌==◌}
use Rattle.std.specs.Char.{is_ascii_digit}
use Rattle.std.specs.List.{list_all}
use Rattle.std.specs.Str.{chars, is_utf8}
use lib.Pointwise.{pointwise}
use Rattle.std.proofs.lemmas.Str.{IsUtf8-from_is_utf8}
use Rattle.td_tree.specs.declared.token.Kind.{Kind}
use Rattle.td_tree.specs.declared.token.Kind.TheVariants as kinds
use Rattle.td_tree.specs.model.Lexemes.{Lexeme, name, component, number, text, bad}
use Rattle.td_tree.specs.model.Names.{begins_the, is_name, is_word}
use Rattle.td_tree.specs.model.Numbers.{decimal_value}
use Rattle.td_tree.specs.model.Pieces.{kind_of}
use Rattle.td_tree.specs.model.Symbols.{symbols}
use Rattle.td_tree.specs.model.TextTokens.{IsQuotedText, content, with_quotes_doubled, text_in_quotes}
use Rattle.td_tree.specs.model.TokenLexemes.{is_the_word, is_quoted_text, lexeme_of}
use Rattle.td_tree.proofs.law_lemmas.BadTokens.{bad_where_seen}
use Rattle.td_tree.proofs.law_lemmas.CharacterLaws.{both}
use Rattle.td_tree.proofs.law_lemmas.QuotedLaws.{are_quoted}
use Rattle.td_tree.proofs.law_lemmas.TheWords.{behind_the, is_long}
use Rattle.td_parse.specs.code.Parsing.{seen_as}

-- a test that is passed where its failure would make a good kind bad
passed : (b : Bool) (x : Lexeme) (kind : Kind) → ((if b then x else bad) ≡ bad → kind ≡ kinds.Bad) → (kind ≡ kinds.Bad → ⊥) → b ≡ true
passed true x kind seen good = refl
passed false x kind seen good = absurd (good (seen refl))

-- the bytes of a name are a name
pub name_passes : (t : List ℕ) → kind_of (symbols t) ≡ Some kinds.Name → (is_utf8 t && is_name t) ≡ true
name_passes t is = passed (is_utf8 t && is_name t) (name t) kinds.Name (bad_where_seen t kinds.Name is) (λ e. absurd cc)

pub component_passes : (t : List ℕ) → kind_of (symbols t) ≡ Some kinds.Component → is_the_word t ≡ true
component_passes t is = passed (is_the_word t) (component (drop 4 t)) kinds.Component (bad_where_seen t kinds.Component is) (λ e. absurd cc)

pub number_passes : (t : List ℕ) → kind_of (symbols t) ≡ Some kinds.Number → list_all is_ascii_digit t ≡ true
number_passes t is = passed (list_all is_ascii_digit t) (number (decimal_value t)) kinds.Number (bad_where_seen t kinds.Number is) (λ e. absurd cc)

pub text_passes : (t : List ℕ) → kind_of (symbols t) ≡ Some kinds.Text → is_quoted_text t ≡ true
text_passes t is = passed (is_quoted_text t) (text (content t)) kinds.Text (bad_where_seen t kinds.Text is) (λ e. absurd cc)

-- the grammar sees a token as its kind says
pub seen : (kind : Kind) (t : List ℕ) → kind_of (symbols t) ≡ Some kind → lexeme_of kind t ≡ seen_as kind t
seen (kinds.Reserved k) t is = refl
seen kinds.Component t is = rw (component_passes t is) refl
seen kinds.Name t is = rw (name_passes t is) refl
seen kinds.Number t is = rw (number_passes t is) refl
seen kinds.Text t is = rw (text_passes t is) refl
seen (kinds.Sign s) t is = refl
seen kinds.Bad t is = refl

-- ---- what the bytes are good for

pub name_is : (t : List ℕ) → kind_of (symbols t) ≡ Some kinds.Name → is_name t ≡ true
name_is t is = (both (is_utf8 t) (is_name t) (name_passes t is)).1

pub name_is_utf8 : (t : List ℕ) → kind_of (symbols t) ≡ Some kinds.Name → IsUtf8 t
name_is_utf8 t is = IsUtf8-from_is_utf8 t (both (is_utf8 t) (is_name t) (name_passes t is)).0

pub behind_is_utf8 : (t : List ℕ) → kind_of (symbols t) ≡ Some kinds.Component → IsUtf8 (drop 4 t)
behind_is_utf8 t is = (behind_the t (component_passes t is)).itself

pub component_is_long : (t : List ℕ) → kind_of (symbols t) ≡ Some kinds.Component → 4 ≤ length t
component_is_long t is = is_long t (both (is_utf8 t && is_word (chars t)) (begins_the t) (component_passes t is)).1

-- a text in quotes is what it says, in quotes
pub quoted_is : (t : List ℕ) → kind_of (symbols t) ≡ Some kinds.Text → IsQuotedText t
quoted_is t is = (are_quoted t).0 is

pub text_is_long : (t : List ℕ) → kind_of (symbols t) ≡ Some kinds.Text → 2 ≤ length t
text_is_long t is = let h = quoted_is t is in rw h.is (omega (arith, length-append (with_quotes_doubled h.said) (39 ∷ [])))

pub text_is_utf8 : (t : List ℕ) → kind_of (symbols t) ≡ Some kinds.Text → IsUtf8 (content t)
text_is_utf8 t is = IsUtf8-from_is_utf8 (content t) (both (is_utf8 (content t)) (pointwise ◌==◌ (text_in_quotes (content t)) t) (text_passes t is)).0
