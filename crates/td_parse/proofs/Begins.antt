-- How what is spelled begins.
use Rattle.std.proofs.Common.{◌≡◌, Bool, true, false, List, [], ◌∷◌, ◌++◌, None, refl, ap, inl, inr, ◌⊎◌}
use denote.Enum.Bare.{same_true}
use Rattle.td_tree.specs.contracts.keyword.Keyword as keyword_type
use Rattle.td_tree.specs.contracts.token.Sign as sign_type
use Rattle.td_tree.specs.declared.keyword.Keyword.{Keyword}
use Rattle.td_tree.specs.declared.keyword.Keyword.TheVariants as k
use Rattle.td_tree.specs.declared.operator.Aggregate.{Aggregate}
use Rattle.td_tree.specs.declared.operator.Aggregate.TheVariants as aggregates
use Rattle.td_tree.specs.declared.operator.Level.{Level}
use Rattle.td_tree.specs.declared.operator.Level.TheVariants as levels
use Rattle.td_tree.specs.declared.operator.Measure.{Measure}
use Rattle.td_tree.specs.declared.operator.Measure.TheVariants as measures
use Rattle.td_tree.specs.declared.token.Sign.TheVariants as signs
use Rattle.td_tree.specs.model.Grammar.{tighter, measure_word, aggregate_word, Spelling, looser, binding, restriction, between, negation, comparison, minus, closure, tuple_from, extraction, behind, literal, reference, selector, component, parentheses, measure, aggregate, headed_relation, relation, empty_tuple, tuple, extension, setting_extension, summary_per, summary_by, choice, LiteralSpelling, number_literal, minus_literal, text_literal, true_literal, false_literal, dee_literal, dum_literal, ExpressionsSpelling, last_expression, next_expression}
use Rattle.td_tree.specs.model.Lexemes.{Lexeme, keyword, sign}
use Rattle.td_tree.specs.model.Lexemes as lexeme
use Rattle.td_parse.specs.code.ReadingSteps.{same_lexeme, expect}
use Rattle.td_tree.specs.model.Trees.{Literal, Tree, Trees}

-- ---- one lexeme

pub same_is : (x l : Lexeme) → same_lexeme x l ≡ true → x ≡ l
same_is (keyword a) (keyword b) e = ap keyword (same_true keyword_type.the_type (search) a b e)
same_is (sign a) (sign b) e = ap sign (same_true sign_type.the_type (search) a b e)
same_is (keyword a) (sign b) e = absurd cc
same_is (keyword a) (lexeme.name b) e = absurd cc
same_is (keyword a) (lexeme.component b) e = absurd cc
same_is (keyword a) (lexeme.number b) e = absurd cc
same_is (keyword a) (lexeme.text b) e = absurd cc
same_is (keyword a) lexeme.bad e = absurd cc
same_is (sign a) (keyword b) e = absurd cc
same_is (sign a) (lexeme.name b) e = absurd cc
same_is (sign a) (lexeme.component b) e = absurd cc
same_is (sign a) (lexeme.number b) e = absurd cc
same_is (sign a) (lexeme.text b) e = absurd cc
same_is (sign a) lexeme.bad e = absurd cc
same_is (lexeme.name a) l e = absurd cc
same_is (lexeme.component a) l e = absurd cc
same_is (lexeme.number a) l e = absurd cc
same_is (lexeme.text a) l e = absurd cc
same_is lexeme.bad l e = absurd cc

pub true_or_false : (b : Bool) → (b ≡ true) ⊎ (b ≡ false)
true_or_false true = inl refl
true_or_false false = inr refl

pub expect_other : (x l : Lexeme) (ts : List Lexeme) → same_lexeme x l ≡ false → expect l (x ∷ ts) ≡ None
unfolding expect
expect_other x l ts e = rw e refl

-- ---- the first lexeme

-- a word that an operand begins with
abbrev begins_word : Keyword → Bool
begins_word k.True = true
begins_word k.False = true
begins_word k.TableDee = true
begins_word k.TableDum = true
begins_word k.Count = true
begins_word k.IsEmpty = true
begins_word k.Sum = true
begins_word k.Max = true
begins_word k.Min = true
begins_word k.Relation = true
begins_word k.Tuple = true
begins_word k.Extend = true
begins_word k.Summarize = true
begins_word k.If = true
begins_word k.Tclose = true
begins_word _ = false

-- what an expression begins with, with or without WITH, and with or without NOT
abbrev pub begins_expression : Bool → Bool → Lexeme → Bool
begins_expression names not (keyword k.With) = names
begins_expression names not (keyword k.Not) = not
begins_expression names not (keyword w) = begins_word w
begins_expression names not (sign signs.OpenParenthesis) = true
begins_expression names not (sign signs.Minus) = true
begins_expression names not (sign s) = false
begins_expression names not lexeme.bad = false
begins_expression names not _ = true

-- the level that holds WITH
abbrev pub binds : Level → Bool
binds levels.Binding = true
binds _ = false

-- the levels that hold NOT
abbrev pub negates : Level → Bool
negates levels.Binding = true
negates levels.Restriction = true
negates levels.Disjunction = true
negates levels.Conjunction = true
negates levels.Negation = true
negates _ = false

abbrev pub BeginsWith : Bool → Bool → List Lexeme → Type 0
BeginsWith names not [] = ⊥
BeginsWith names not (x ∷ xs) = begins_expression names not x ≡ true

abbrev pub Begins : Level → List Lexeme → Type 0
Begins level = BeginsWith (binds level) (negates level)

begins_append : (names not : Bool) (xs ys : List Lexeme) → BeginsWith names not xs → BeginsWith names not (xs ++ ys)
begins_append names not [] ys h = absurd h
begins_append names not (x ∷ xs) ys h = h

with_not : (x : Lexeme) → begins_expression false false x ≡ true → begins_expression false true x ≡ true
with_not (keyword k.With) e = e
with_not (keyword k.Not) e = refl
with_not (keyword w) e = e
with_not (sign s) e = e
with_not (lexeme.name n) e = e
with_not (lexeme.component n) e = e
with_not (lexeme.number n) e = e
with_not (lexeme.text n) e = e
with_not lexeme.bad e = e

begins_with_not : (xs : List Lexeme) → BeginsWith false false xs → BeginsWith false true xs
begins_with_not [] h = absurd h
begins_with_not (x ∷ xs) h = with_not x h

with_names : (x : Lexeme) → begins_expression false true x ≡ true → begins_expression true true x ≡ true
with_names (keyword k.With) e = refl
with_names (keyword k.Not) e = refl
with_names (keyword w) e = e
with_names (sign s) e = e
with_names (lexeme.name n) e = e
with_names (lexeme.component n) e = e
with_names (lexeme.number n) e = e
with_names (lexeme.text n) e = e
with_names lexeme.bad e = e

begins_with_names : (xs : List Lexeme) → BeginsWith false true xs → BeginsWith true true xs
begins_with_names [] h = absurd h
begins_with_names (x ∷ xs) h = with_names x h

begins_looser : (level : Level) (xs : List Lexeme) → Begins (tighter level) xs → Begins level xs
begins_looser levels.Binding xs h = begins_with_names xs h
begins_looser levels.Restriction xs h = h
begins_looser levels.Disjunction xs h = h
begins_looser levels.Conjunction xs h = h
begins_looser levels.Negation xs h = begins_with_not xs h
begins_looser levels.Comparison xs h = h
begins_looser levels.Relational xs h = h
begins_looser levels.Additive xs h = h
begins_looser levels.Multiplicative xs h = h
begins_looser levels.Prefixed xs h = h
begins_looser levels.Postfixed xs h = h
begins_looser levels.Primary xs h = h

begins_measure : (op : Measure) → begins_expression false false (keyword (measure_word op)) ≡ true
begins_measure measures.Count = refl
begins_measure measures.IsEmpty = refl

begins_aggregate : (op : Aggregate) → begins_expression false false (keyword (aggregate_word op)) ≡ true
begins_aggregate aggregates.Sum = refl
begins_aggregate aggregates.Max = refl
begins_aggregate aggregates.Min = refl

begins_literal : {xs : List Lexeme} {l : Literal} → LiteralSpelling xs l → BeginsWith false false xs
begins_literal (number_literal h) = refl
begins_literal (minus_literal h) = refl
begins_literal text_literal = refl
begins_literal true_literal = refl
begins_literal false_literal = refl
begins_literal dee_literal = refl
begins_literal dum_literal = refl

pub spelled_begins : {level : Level} {xs : List Lexeme} {t : Tree} → Spelling level xs t → Begins level xs
spelled_begins (looser {level} {xs} p) = begins_looser level xs (spelled_begins p)
spelled_begins (binding p q) = refl
spelled_begins (restriction {xs} {ys} p q) = begins_append _ _ xs _ (spelled_begins p)
spelled_begins (between {op} {xs} {ys} p q) = begins_append _ _ xs _ (spelled_begins p)
spelled_begins (negation p) = refl
spelled_begins (comparison {op} {xs} {ys} p q) = begins_append _ _ xs _ (spelled_begins p)
spelled_begins (minus h p) = refl
spelled_begins (closure p) = refl
spelled_begins (tuple_from p) = refl
spelled_begins (extraction p) = refl
spelled_begins (behind {xs} {ys} p q) = begins_append _ _ xs ys (spelled_begins p)
spelled_begins (literal p) = begins_literal p
spelled_begins reference = refl
spelled_begins (selector p) = refl
spelled_begins (component p) = refl
spelled_begins (parentheses p) = refl
spelled_begins (measure {op} p) = begins_measure op
spelled_begins (aggregate {op} p q) = begins_aggregate op
spelled_begins (headed_relation p q) = refl
spelled_begins (relation p) = refl
spelled_begins empty_tuple = refl
spelled_begins (tuple p) = refl
spelled_begins (extension p q) = refl
spelled_begins (setting_extension p q) = refl
spelled_begins (summary_per p q r) = refl
spelled_begins (summary_by p q r) = refl
spelled_begins (choice p q r) = refl

pub expressions_begin : {xs : List Lexeme} {all : Trees} → ExpressionsSpelling xs all → BeginsWith true true xs
expressions_begin (last_expression p) = spelled_begins p
expressions_begin (next_expression {xs} {ys} p q) = begins_append _ _ xs _ (spelled_begins p)

-- what no expression begins with is not the first lexeme
pub begins_no : (l : Lexeme) (names not : Bool) (xs s : List Lexeme) → begins_expression names not l ≡ false → BeginsWith names not xs → expect l (xs ++ s) ≡ None
begins_no l names not [] s e h = absurd h
begins_no l names not (x ∷ xs) s e h =
    elim (true_or_false (same_lexeme x l)) [
      | inl same ↦ absurd (let f : begins_expression names not l ≡ true = rw (← same_is x l same) h in cc)
      | inr other ↦ expect_other x l (xs ++ s) other
    ]
