-- Expressions in a statement that some tokens spell are spelled by some of these tokens.
use Rattle.std.proofs.Common.{◌≡◌, ◌∷◌, ◌++◌, List, [], Option, Some, None, append_assoc, refl, subst, sym}
use Rattle.td_engine.specs.laws.LegalityLaws.{IsSpelledStatement}
use Rattle.td_engine.specs.model.Legality.{IsSpelledExpression, IsSpelledIf}
use Rattle.td_tree.specs.model.Lexemes.{Lexeme, keyword, sign}
use Rattle.td_tree.specs.model.Lexemes as lexeme
use Rattle.td_tree.specs.model.Lists.{Optional, with_braces, with_parentheses, present}
use Rattle.td_tree.specs.model.StatementGrammar.{BodySpelling, ConstraintPart, ExpressionItem, StatementSpelling, constraint_definition, constraint_part, statement, type_definition, virtual_definition}
use Rattle.td_tree.specs.model.Statements.{PlacedToken}
use Rattle.td_tree.specs.model.TokenLexemes.{lexeme_of, lexemes}
use Rattle.td_tree.specs.model.Trees.{AttributeTrees, Text, Tree, define_constraint, define_type, define_virtual}
use Rattle.td_tree.specs.declared.keyword.Keyword.TheVariants as k
use Rattle.td_tree.specs.declared.token.Sign.TheVariants as signs

-- tokens that are seen as two lists, one behind the other
record AreCut (xs ys : List Lexeme) : Type 0 where
  first : List PlacedToken
  rest : List PlacedToken
  first_is : lexemes first ≡ xs
  rest_is : lexemes rest ≡ ys

cut : (ts : List PlacedToken) (xs ys : List Lexeme) → lexemes ts ≡ xs ++ ys → AreCut xs ys
cut ts [] ys is = record { first = []; rest = ts; first_is = refl; rest_is = is }
cut [] (x ∷ xs) ys is = absurd (cc)
cut (t ∷ ts) (x ∷ xs) ys is =
    let others : lexemes ts ≡ xs ++ ys = cc in
    let head : lexeme_of t.kind t.text ≡ x = cc in
    let parts = cut ts xs ys others in
    record { first = t ∷ parts.first; rest = parts.rest; first_is = λ i. head i ∷ parts.first_is i; rest_is = parts.rest_is }

-- an expression among lexemes, with what stands before and behind it
record HasPart (xs : List Lexeme) (e : Tree) : Type 0 where
  before : List Lexeme
  item : List Lexeme
  behind : List Lexeme
  is : xs ≡ before ++ (item ++ behind)
  spelled : ExpressionItem item e

part_spelled : (ts : List PlacedToken) (e : Tree) → HasPart (lexemes ts) e → IsSpelledExpression e
part_spelled ts e part =
    let outer = cut ts part.before (part.item ++ part.behind) part.is in
    let inner = cut outer.rest part.item part.behind outer.rest_is in
    (inner.first, subst (λ xs. ExpressionItem xs e) (sym inner.first_is) part.spelled)

-- ---- constraints

pub constraint_spelled : (n : Text) (e : Tree) → IsSpelledStatement (define_constraint n e) → IsSpelledExpression e
constraint_spelled n e s = part_spelled s.0 e (by_spelling (lexemes s.0) s.1)
  where
    by_body : (xs : List Lexeme) → BodySpelling xs (define_constraint n e) → HasPart (xs ++ (sign signs.Semicolon ∷ [])) e
    by_body _ (constraint_definition {xs = item} spelled) = record {
      before = keyword k.Constraint ∷ (lexeme.name n ∷ []);
      item = item;
      behind = sign signs.Semicolon ∷ [];
      is = refl;
      spelled = spelled;
    }

    by_spelling : (xs : List Lexeme) → StatementSpelling xs (define_constraint n e) → HasPart xs e
    by_spelling _ (statement {xs = xs} body) = by_body xs body

-- ---- virtual relvars

between_parentheses : (item ys zs : List Lexeme) → (with_parentheses item ++ ys) ++ zs ≡ sign signs.OpenParenthesis ∷ (item ++ (sign signs.CloseParenthesis ∷ (ys ++ zs)))
between_parentheses item ys zs = simp append_assoc

pub virtual_spelled : (n : Text) (e : Tree) (keys : List (List Text)) → IsSpelledStatement (define_virtual n e keys) → IsSpelledExpression e
virtual_spelled n e keys s = part_spelled s.0 e (by_spelling (lexemes s.0) s.1)
  where
    by_body : (xs : List Lexeme) → BodySpelling xs (define_virtual n e keys) → HasPart (xs ++ (sign signs.Semicolon ∷ [])) e
    by_body _ (virtual_definition {xs = item} {ys = ys} spelled all) = record {
      before = keyword k.Var ∷ (lexeme.name n ∷ (keyword k.Virtual ∷ (sign signs.OpenParenthesis ∷ [])));
      item = item;
      behind = sign signs.CloseParenthesis ∷ (ys ++ (sign signs.Semicolon ∷ []));
      is = λ i. keyword k.Var ∷ (lexeme.name n ∷ (keyword k.Virtual ∷ between_parentheses item ys (sign signs.Semicolon ∷ []) i));
      spelled = spelled;
    }

    by_spelling : (xs : List Lexeme) → StatementSpelling xs (define_virtual n e keys) → HasPart xs e
    by_spelling _ (statement {xs = xs} body) = by_body xs body

-- ---- types

behind_components : (xs item zs : List Lexeme) → with_braces (xs ++ (keyword k.Constraint ∷ item)) ++ zs ≡ (sign signs.OpenBrace ∷ (xs ++ (keyword k.Constraint ∷ []))) ++ (item ++ (sign signs.CloseBrace ∷ zs))
behind_components xs item zs = simp append_assoc

pub type_spelled : (n : Text) (h : AttributeTrees) (c : Option Tree) → IsSpelledStatement (define_type n h c) → IsSpelledIf c
type_spelled n h None s = tt
type_spelled n h (Some e) s = part_spelled s.0 e (by_spelling (lexemes s.0) s.1)
  where
    by_part : (xs ys : List Lexeme) → Optional ConstraintPart ys (Some e)
        → HasPart ((keyword k.«Type» ∷ (lexeme.name n ∷ (keyword k.Possrep ∷ with_braces (xs ++ ys)))) ++ (sign signs.Semicolon ∷ [])) e
    by_part xs _ (present (constraint_part {xs = item} spelled)) = record {
      before = keyword k.«Type» ∷ (lexeme.name n ∷ (keyword k.Possrep ∷ (sign signs.OpenBrace ∷ (xs ++ (keyword k.Constraint ∷ [])))));
      item = item;
      behind = sign signs.CloseBrace ∷ (sign signs.Semicolon ∷ []);
      is = λ i. keyword k.«Type» ∷ (lexeme.name n ∷ (keyword k.Possrep ∷ behind_components xs item (sign signs.Semicolon ∷ []) i));
      spelled = spelled;
    }

    by_body : (xs : List Lexeme) → BodySpelling xs (define_type n h (Some e)) → HasPart (xs ++ (sign signs.Semicolon ∷ [])) e
    by_body _ (type_definition {xs = xs} {ys = ys} components low part) = by_part xs ys part

    by_spelling : (xs : List Lexeme) → StatementSpelling xs (define_type n h (Some e)) → HasPart xs e
    by_spelling _ (statement {xs = xs} body) = by_body xs body
