-- The first of the tokens that are left, listed or upcoming.
use Rattle.std.proofs.Common.{◌≡◌, ◌<◌, ◌≤◌, ◌||◌, ℕ, List, [], ◌∷◌, ◌++◌, length, drop, get_or, refl, sym, ap, ◌∙◌, arith, Option, Some, None, IfSome}
use Rattle.std.specs.List.{list_any}
use Rattle.std.specs.Option.{IfNone}
use Rattle.td_tree.specs.declared.token.Kind.{Kind}
use Rattle.td_tree.specs.declared.token.Kind.TheVariants as kinds
use Rattle.td_tree.specs.model.Lexemes.{Lexeme}
use Rattle.td_tree.specs.model.Pieces.{kind_of}
use Rattle.td_tree.specs.model.Statements.{PlacedToken}
use Rattle.td_tree.specs.model.Symbols.{symbols}
use Rattle.td_tree.specs.model.TokenLexemes.{lexeme_of, lexemes}
use Rattle.td_parse.specs.code.Parsing.{Sees, seen_as}
use Rattle.td_parse.specs.model.Meanings.{has_bad, is_bad}
use Rattle.td_scan.specs.code.Progress.{is_bad_kind, is_bad_token}
use Rattle.td_parse.proofs.Seen.{seen}

-- a token as its kind says
pub seen_token : (t : PlacedToken) (kind : Kind) (text : List ℕ) → kind ≡ t.kind → text ≡ t.text → kind_of (symbols t.text) ≡ Some kind → lexeme_of t.kind t.text ≡ seen_as kind text
seen_token t kind text is reads said =
    ap (λ k. lexeme_of k t.text) (sym is) ∙ seen kind t.text said ∙ ap (seen_as kind) (sym reads)

pub none_listed : (ts : List PlacedToken) → length ts < 1 → ts ≡ []
none_listed [] few = refl
none_listed (t ∷ ts) few = absurd (omega arith)

pub first_listed : (ts : List PlacedToken) (d : PlacedToken) → 1 ≤ length ts → ts ≡ get_or ts 0 d ∷ drop 1 ts
first_listed [] d some = absurd (omega arith)
first_listed (t ∷ ts) d some = refl

-- what is seen of a list with a first token
pub sees_first : (all : List Lexeme) (ts us : List PlacedToken) (t : PlacedToken) (kind : Kind) → all ≡ lexemes ts → ts ≡ t ∷ us → kind ≡ t.kind → kind_of (symbols t.text) ≡ Some kind → Sees all (Some kind)
sees_first all ts us t kind is first told said = (t.text, lexemes us, is ∙ ap lexemes first ∙ ap (λ x. x ∷ lexemes us) (seen_token t kind t.text told refl said))

-- what is seen of upcoming tokens
pub sees_upcoming : (all : List Lexeme) (ts us : List PlacedToken) (found : Option Kind) → all ≡ lexemes (ts ++ us) → ts ≡ []
    → IfSome found (λ kind. (token : PlacedToken) × (later : List PlacedToken) × (us ≡ token ∷ later) × (token.kind ≡ kind) × (kind_of (symbols token.text) ≡ Some kind))
    → IfNone found (us ≡ []) → Sees all found
sees_upcoming all ts us None is none some empty = is ∙ ap (λ x. lexemes (x ++ us)) none ∙ ap lexemes empty
sees_upcoming all ts us (Some kind) is none some empty =
    sees_first all us some.1 some.0 kind (is ∙ ap (λ x. lexemes (x ++ us)) none) some.2 (sym some.3) some.4

-- ---- bad tokens

same_kind : (kind : Kind) → is_bad kind ≡ is_bad_kind kind
same_kind (kinds.Reserved word) = refl
same_kind kinds.Component = refl
same_kind kinds.Name = refl
same_kind kinds.Number = refl
same_kind kinds.Text = refl
same_kind (kinds.Sign sign) = refl
same_kind kinds.Bad = refl

-- what the scanner tells of bad tokens is what the parser asks
pub told_bad : (ts : List PlacedToken) → has_bad ts ≡ list_any is_bad_token ts
told_bad [] = refl
told_bad (t ∷ ts) = ap (λ b. b || has_bad ts) (same_kind t.kind) ∙ ap (λ b. is_bad_kind t.kind || b) (told_bad ts)
