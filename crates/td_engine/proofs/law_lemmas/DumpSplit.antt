-- Tokens that are seen as the lexemes of statements, each up to a `;`, are read as these statements.
use Rattle.std.proofs.Common.{◌≡◌, ◌∙◌, ℕ, List, [], ◌∷◌, ◌++◌, refl, ap, subst, sym, Bool, true, false, drop, ◌&&◌}
use Rattle.std.specs.Prelude.{◌||◌, if◌then◌else◌}
use Rattle.std.specs.Char.{is_ascii_digit}
use Rattle.std.specs.List.{list_all}
use Rattle.std.specs.Str.{is_utf8}
use Rattle.td_engine.specs.laws.Rebuilding.{AreReadAs}
use Rattle.td_parse.specs.model.Meanings.{has_bad, is_bad}
use Rattle.td_tree.specs.declared.token.Kind.{Kind}
use Rattle.td_tree.specs.declared.token.Kind.TheVariants as kinds
use Rattle.td_tree.specs.declared.token.Sign.{Sign}
use Rattle.td_tree.specs.declared.token.Sign.TheVariants as signs
use Rattle.td_tree.specs.model.Lexemes.{Lexeme, sign}
use Rattle.td_tree.specs.model.Lexemes as lexeme
use Rattle.td_tree.specs.model.Names.{is_name}
use Rattle.td_tree.specs.model.Numbers.{decimal_value}
use Rattle.td_tree.specs.model.StatementGrammar.{BodySpelling, StatementSpelling, statement}
use Rattle.td_tree.specs.model.Statements.{PlacedToken, ends, is_end, put, split}
use Rattle.td_tree.specs.model.TextTokens.{content}
use Rattle.td_tree.specs.model.TokenLexemes.{is_quoted_text, is_the_word, lexeme_of, lexemes}
use Rattle.td_tree.specs.model.Trees.{Statement}
use Rattle.td_engine.proofs.law_lemmas.DumpInner.{AllInner, IsInner, also, none_left}

-- ---- one token

sign_ends : (s : Sign) → sign s ≡ sign signs.Semicolon → is_end (kinds.Sign s) ≡ true
sign_ends signs.Semicolon e = refl
sign_ends _ e = absurd cc

unless_bad : (b : Bool) (x : Lexeme) → (x ≡ sign signs.Semicolon → ⊥) → (if b then x else lexeme.bad) ≡ sign signs.Semicolon → ⊥
unless_bad true x other e = other e
unless_bad false x other e = absurd cc

-- a token that is seen as a `;` is one
semicolon_ends : (kind : Kind) (t : List ℕ) → lexeme_of kind t ≡ sign signs.Semicolon → is_end kind ≡ true
semicolon_ends (kinds.Sign s) t e = sign_ends s e
semicolon_ends (kinds.Reserved w) t e = absurd cc
semicolon_ends kinds.Component t e = absurd (unless_bad (is_the_word t) (lexeme.component (drop 4 t)) (λ f. absurd cc) e)
semicolon_ends kinds.Name t e = absurd (unless_bad (is_utf8 t && is_name t) (lexeme.name t) (λ f. absurd cc) e)
semicolon_ends kinds.Number t e = absurd (unless_bad (list_all is_ascii_digit t) (lexeme.number (decimal_value t)) (λ f. absurd cc) e)
semicolon_ends kinds.Text t e = absurd (unless_bad (is_quoted_text t) (lexeme.text (content t)) (λ f. absurd cc) e)
semicolon_ends kinds.Bad t e = absurd cc

inner_sign : (s : Sign) → IsInner (sign s) → is_end (kinds.Sign s) ≡ false
inner_sign signs.Semicolon p = absurd p
inner_sign _ p = refl

-- one that is seen as no `;` is none
inner_goes_on : (kind : Kind) (t : List ℕ) → IsInner (lexeme_of kind t) → is_end kind ≡ false
inner_goes_on (kinds.Sign s) t p = inner_sign s p
inner_goes_on (kinds.Reserved w) t p = refl
inner_goes_on _ t p = refl

-- one that is not seen as bad is not
inner_good : (kind : Kind) (t : List ℕ) → IsInner (lexeme_of kind t) → is_bad kind ≡ false
inner_good kinds.Bad t p = absurd p
inner_good _ t p = refl

-- ---- one statement

-- the tokens of the first statement, and those behind it
record IsParted (ts : List PlacedToken) (xs ys : List Lexeme) : Type 0 where
  first : List PlacedToken
  others : List PlacedToken
  parts : split ts ≡ first ∷ split others
  seen : lexemes first ≡ xs ++ (sign signs.Semicolon ∷ [])
  good : has_bad first ≡ false
  behind : lexemes others ≡ ys

semicolon_good : (kind : Kind) → is_end kind ≡ true → is_bad kind ≡ false
semicolon_good kinds.Bad e = absurd cc
semicolon_good _ e = refl

parted : (ts : List PlacedToken) (xs ys : List Lexeme) → AllInner xs → lexemes ts ≡ xs ++ (sign signs.Semicolon ∷ ys) → IsParted ts xs ys
parted [] [] ys inner e = absurd cc
parted [] (x ∷ xs) ys inner e = absurd cc
parted (t ∷ ts) [] ys none_left e =
    let head : lexeme_of t.kind t.text ≡ sign signs.Semicolon = cc in
    let tail : lexemes ts ≡ ys = cc in
    let end : ends t ≡ true = semicolon_ends t.kind t.text head in
    record {
      first = t ∷ [];
      others = ts;
      parts = ap (λ b. if b then (t ∷ []) ∷ split ts else put t (split ts)) end;
      seen = ap (λ x. x ∷ []) head;
      good = ap (λ b. b || false) (semicolon_good t.kind end);
      behind = tail;
    }
parted (t ∷ ts) (x ∷ xs) ys (also p ps) e =
    let head : lexeme_of t.kind t.text ≡ x = cc in
    let tail : lexemes ts ≡ xs ++ (sign signs.Semicolon ∷ ys) = cc in
    let inside : IsInner (lexeme_of t.kind t.text) = subst IsInner (sym head) p in
    let more : IsParted ts xs ys = parted ts xs ys ps tail in
    record {
      first = t ∷ more.first;
      others = more.others;
      parts = ap (λ b. if b then (t ∷ []) ∷ split ts else put t (split ts)) (inner_goes_on t.kind t.text inside) ∙ ap (put t) more.parts;
      seen = ap (λ y. y ∷ lexemes more.first) head ∙ ap (λ r. x ∷ r) more.seen;
      good = ap (λ b. b || has_bad more.first) (inner_good t.kind t.text inside) ∙ more.good;
      behind = more.behind;
    }

-- ---- statements

-- these lexemes are those of the statements, each with a `;` at its end alone
pub data AreScripted : List Lexeme → List Statement → Type 0 where
  no_statement : AreScripted [] []
  one_statement : {xs ys : List Lexeme} {s : Statement} {ss : List Statement} → AllInner xs → BodySpelling xs s → AreScripted ys ss
      → AreScripted (xs ++ (sign signs.Semicolon ∷ ys)) (s ∷ ss)

pub split_reads : (ts : List PlacedToken) (ls : List Lexeme) (ss : List Statement) → AreScripted ls ss → lexemes ts ≡ ls → AreReadAs (split ts) ss
split_reads [] _ _ no_statement e = tt
split_reads (t ∷ ts) _ _ no_statement e = absurd cc
split_reads ts _ _ (one_statement {xs} {ys} {s} {ss} inner spelled more) e =
    let p : IsParted ts xs ys = parted ts xs ys inner e in
    subst (λ tss. AreReadAs tss (s ∷ ss)) (sym p.parts)
    (record { good = p.good; spelled = subst (λ ls. StatementSpelling ls s) (sym p.seen) (statement spelled) }, split_reads p.others ys ss more p.behind)
