-- What may follow a name that an expression begins with: neither a type nor ':='.
use Rattle.std.proofs.Common.{◌≡◌, Bool, true, false, List, [], ◌∷◌, ◌++◌, Some, None, refl, append_assoc}
use Rattle.td_tree.specs.declared.keyword.Keyword.TheVariants as k
use Rattle.td_tree.specs.declared.operator.Comparison.{Comparison}
use Rattle.td_tree.specs.declared.operator.Comparison.TheVariants as comparisons
use Rattle.td_tree.specs.declared.operator.Level.{Level}
use Rattle.td_tree.specs.declared.operator.Operator.{Operator}
use Rattle.td_tree.specs.declared.operator.Operator.TheVariants as operators
use Rattle.td_tree.specs.declared.token.Sign.TheVariants as signs
use Rattle.td_tree.specs.model.Grammar.{operator_words, comparison_word, Spelling, looser, binding, restriction, between, negation, comparison, minus, closure, tuple_from, extraction, behind, literal, reference, selector, component, parentheses, measure, aggregate, headed_relation, relation, empty_tuple, tuple, extension, setting_extension, summary_per, summary_by, choice, LiteralSpelling, number_literal, minus_literal, text_literal, true_literal, false_literal, dee_literal, dum_literal, PostfixSpelling, projection, renamings, renamings_in_braces, grouping, wrapping, open_grouping, open_wrapping, ungrouping, unwrapping, AttributeListSpelling, only_names, all_but_names, ExpressionsSpelling, last_expression, next_expression, HeadingSpelling, empty_heading, AttributesSpelling, last_attribute, next_attribute, TypeSpelling, integer_type, char_type, boolean_type, user_type, relation_type, tuple_type}
use Rattle.td_tree.specs.model.Grammar as grammar
use Rattle.td_tree.specs.model.Lexemes.{Lexeme, keyword, sign}
use Rattle.td_tree.specs.model.Lexemes as lexeme
use Rattle.td_parse.specs.code.ReadingOperators.{name_and, is_assign, begins_type, call_at, heading_at}
use Rattle.td_parse.specs.code.ReadingSteps.{expect}
use Rattle.td_tree.specs.model.Trees.{Text, TypeTree, AttributeTrees, Attributes, Literal, Postfix, Tree, Trees}
use Rattle.td_parse.proofs.AgainLists.{comma}
use Rattle.td_parse.proofs.Begins.{begins_no, expressions_begin}

-- the first of them is such a lexeme
abbrev pub first_is : (Lexeme → Bool) → List Lexeme → Bool
first_is what [] = false
first_is what (x ∷ xs) = what x

-- no lexeme of this kind follows a name in an expression
pub record NeverFollows (what : Lexeme → Bool) : Type 0 where
  pub condition : what (keyword k.Where) ≡ false
  pub operators : (op : Operator) (s : List Lexeme) → first_is what (operator_words op ++ s) ≡ false
  pub comparisons : (op : Comparison) → what (comparison_word op) ≡ false
  pub postfixes : {xs : List Lexeme} {p : Postfix} → PostfixSpelling xs p → (s : List Lexeme) → first_is what (xs ++ s) ≡ false
  pub parenthesis : what (sign signs.OpenParenthesis) ≡ false
  pub from : what (keyword k.From) ≡ false
  pub comma : what comma ≡ false

-- what is spelled begins with no name and then such a lexeme, if what follows does not begin so
pub record Avoids (what : Lexeme → Bool) (xs : List Lexeme) : Type 0 where
  pub falls : (s : List Lexeme) → first_is what s ≡ false → name_and what (xs ++ s) ≡ false

avoids_between : (what : Lexeme → Bool) (op : Operator) (xs ys : List Lexeme) → NeverFollows what → Avoids what xs → Avoids what (xs ++ (operator_words op ++ ys))
avoids_between what op xs ys h a = record {
  falls = λ s st. rw (append_assoc xs (operator_words op ++ ys) s, append_assoc (operator_words op) ys s) (a.falls (operator_words op ++ (ys ++ s)) (h.operators op (ys ++ s)));
}

avoids_before : (what : Lexeme → Bool) (x : Lexeme) (xs ys : List Lexeme) → what x ≡ false → Avoids what xs → Avoids what (xs ++ (x ∷ ys))
avoids_before what x xs ys e a = record { falls = λ s st. rw (append_assoc xs (x ∷ ys) s) (a.falls (x ∷ (ys ++ s)) e) }

avoids_behind : (what : Lexeme → Bool) (xs ys : List Lexeme) (p : Postfix) → NeverFollows what → PostfixSpelling ys p → Avoids what xs → Avoids what (xs ++ ys)
avoids_behind what xs ys p h q a = record { falls = λ s st. rw (append_assoc xs ys s) (a.falls (ys ++ s) (h.postfixes q s)) }

avoids_second : (what : Lexeme → Bool) (n : Text) (x : Lexeme) (xs : List Lexeme) → what x ≡ false → Avoids what (lexeme.name n ∷ (x ∷ xs))
avoids_second what n x xs e = record { falls = λ s st. e }

avoids_name : (what : Lexeme → Bool) (n : Text) → Avoids what (lexeme.name n ∷ [])
avoids_name what n = record {
  falls = λ s. elim s as (λ s. first_is what s ≡ false → name_and what (lexeme.name n ∷ s) ≡ false) [
    | [] ↦ λ st. refl
    | x ∷ s ↦ λ st. st
  ];
}

avoids_word : (what : Lexeme → Bool) (w : _) (xs : List Lexeme) → Avoids what (keyword w ∷ xs)
avoids_word what w xs = record { falls = λ s st. refl }

avoids_sign : (what : Lexeme → Bool) (w : _) (xs : List Lexeme) → Avoids what (sign w ∷ xs)
avoids_sign what w xs = record { falls = λ s st. refl }

avoids_component : (what : Lexeme → Bool) (n : Text) (xs : List Lexeme) → Avoids what (lexeme.component n ∷ xs)
avoids_component what n xs = record { falls = λ s st. refl }

avoids_literal : (what : Lexeme → Bool) {xs : List Lexeme} {l : Literal} → LiteralSpelling xs l → Avoids what xs
avoids_literal what (number_literal h) = record { falls = λ s st. refl }
avoids_literal what (minus_literal h) = avoids_sign what _ _
avoids_literal what text_literal = record { falls = λ s st. refl }
avoids_literal what true_literal = avoids_word what _ _
avoids_literal what false_literal = avoids_word what _ _
avoids_literal what dee_literal = avoids_word what _ _
avoids_literal what dum_literal = avoids_word what _ _

pub avoids : (what : Lexeme → Bool) → NeverFollows what → {level : Level} {xs : List Lexeme} {t : Tree} → Spelling level xs t → Avoids what xs
avoids what h (looser p) = avoids what h p
avoids what h (binding p q) = avoids_word what _ _
avoids what h (restriction {xs} {ys} p q) = avoids_before what (keyword k.Where) xs ys h.condition (avoids what h p)
avoids what h (between {op} {xs} {ys} p q) = avoids_between what op xs ys h (avoids what h p)
avoids what h (negation p) = avoids_word what _ _
avoids what h (comparison {op} {xs} {ys} p q) = avoids_before what (comparison_word op) xs ys (h.comparisons op) (avoids what h p)
avoids what h (minus e p) = avoids_sign what _ _
avoids what h (closure p) = avoids_word what _ _
avoids what h (tuple_from p) = avoids_word what _ _
avoids what h (extraction {n} p) = avoids_second what n _ _ h.from
avoids what h (behind {xs} {ys} {a} {p} q r) = avoids_behind what xs ys p h r (avoids what h q)
avoids what h (literal p) = avoids_literal what p
avoids what h (reference {n}) = avoids_name what n
avoids what h (selector {n} p) = avoids_second what n _ _ h.parenthesis
avoids what h (component {rest} p) = avoids_component what rest _
avoids what h (parentheses p) = avoids_sign what _ _
avoids what h (measure p) = avoids_word what _ _
avoids what h (aggregate p q) = avoids_word what _ _
avoids what h (headed_relation p q) = avoids_word what _ _
avoids what h (relation p) = avoids_word what _ _
avoids what h empty_tuple = avoids_word what _ _
avoids what h (tuple p) = avoids_word what _ _
avoids what h (extension p q) = avoids_word what _ _
avoids what h (setting_extension p q) = avoids_word what _ _
avoids what h (summary_per p q r) = avoids_word what _ _
avoids what h (summary_by p q r) = avoids_word what _ _
avoids what h (choice p q r) = avoids_word what _ _

list_avoids : (what : Lexeme → Bool) → NeverFollows what → {xs : List Lexeme} {all : Trees} → ExpressionsSpelling xs all → Avoids what xs
list_avoids what h (last_expression p) = avoids what h p
list_avoids what h (next_expression {xs} {ys} p q) = avoids_before what comma xs ys h.comma (avoids what h p)

-- ---- types and ':='

projection_no_type : {xs : List Lexeme} {a : Attributes} → AttributeListSpelling xs a → (s : List Lexeme) → first_is begins_type (xs ++ s) ≡ false
projection_no_type (only_names (grammar.names p)) s = refl
projection_no_type (all_but_names p) s = refl

postfix_no_type : {xs : List Lexeme} {p : Postfix} → PostfixSpelling xs p → (s : List Lexeme) → first_is begins_type (xs ++ s) ≡ false
postfix_no_type (projection q) s = projection_no_type q s
postfix_no_type (renamings q) s = refl
postfix_no_type (renamings_in_braces q) s = refl
postfix_no_type (grouping q) s = refl
postfix_no_type (wrapping q) s = refl
postfix_no_type (open_grouping q) s = refl
postfix_no_type (open_wrapping q) s = refl
postfix_no_type ungrouping s = refl
postfix_no_type unwrapping s = refl

operator_no_type : (op : Operator) (s : List Lexeme) → first_is begins_type (operator_words op ++ s) ≡ false
operator_no_type operators.Or s = refl
operator_no_type operators.And s = refl
operator_no_type operators.Union s = refl
operator_no_type operators.Intersect s = refl
operator_no_type operators.Minus s = refl
operator_no_type operators.Join s = refl
operator_no_type operators.Times s = refl
operator_no_type operators.Compose s = refl
operator_no_type operators.Matching s = refl
operator_no_type operators.NotMatching s = refl
operator_no_type operators.DisjointUnion s = refl
operator_no_type operators.IncludedMinus s = refl
operator_no_type operators.Add s = refl
operator_no_type operators.Subtract s = refl
operator_no_type operators.Concatenate s = refl
operator_no_type operators.Multiply s = refl
operator_no_type operators.Divide s = refl

comparison_no_type : (op : Comparison) → begins_type (comparison_word op) ≡ false
comparison_no_type comparisons.Equal = refl
comparison_no_type comparisons.NotEqual = refl
comparison_no_type comparisons.Less = refl
comparison_no_type comparisons.LessOrEqual = refl
comparison_no_type comparisons.Greater = refl
comparison_no_type comparisons.GreaterOrEqual = refl
comparison_no_type comparisons.In = refl

no_type_follows : NeverFollows begins_type
no_type_follows = record { condition = refl; operators = operator_no_type; comparisons = comparison_no_type; postfixes = postfix_no_type; parenthesis = refl; from = refl; comma = refl }

projection_no_assign : {xs : List Lexeme} {a : Attributes} → AttributeListSpelling xs a → (s : List Lexeme) → first_is is_assign (xs ++ s) ≡ false
projection_no_assign (only_names (grammar.names p)) s = refl
projection_no_assign (all_but_names p) s = refl

postfix_no_assign : {xs : List Lexeme} {p : Postfix} → PostfixSpelling xs p → (s : List Lexeme) → first_is is_assign (xs ++ s) ≡ false
postfix_no_assign (projection q) s = projection_no_assign q s
postfix_no_assign (renamings q) s = refl
postfix_no_assign (renamings_in_braces q) s = refl
postfix_no_assign (grouping q) s = refl
postfix_no_assign (wrapping q) s = refl
postfix_no_assign (open_grouping q) s = refl
postfix_no_assign (open_wrapping q) s = refl
postfix_no_assign ungrouping s = refl
postfix_no_assign unwrapping s = refl

operator_no_assign : (op : Operator) (s : List Lexeme) → first_is is_assign (operator_words op ++ s) ≡ false
operator_no_assign operators.Or s = refl
operator_no_assign operators.And s = refl
operator_no_assign operators.Union s = refl
operator_no_assign operators.Intersect s = refl
operator_no_assign operators.Minus s = refl
operator_no_assign operators.Join s = refl
operator_no_assign operators.Times s = refl
operator_no_assign operators.Compose s = refl
operator_no_assign operators.Matching s = refl
operator_no_assign operators.NotMatching s = refl
operator_no_assign operators.DisjointUnion s = refl
operator_no_assign operators.IncludedMinus s = refl
operator_no_assign operators.Add s = refl
operator_no_assign operators.Subtract s = refl
operator_no_assign operators.Concatenate s = refl
operator_no_assign operators.Multiply s = refl
operator_no_assign operators.Divide s = refl

comparison_no_assign : (op : Comparison) → is_assign (comparison_word op) ≡ false
comparison_no_assign comparisons.Equal = refl
comparison_no_assign comparisons.NotEqual = refl
comparison_no_assign comparisons.Less = refl
comparison_no_assign comparisons.LessOrEqual = refl
comparison_no_assign comparisons.Greater = refl
comparison_no_assign comparisons.GreaterOrEqual = refl
comparison_no_assign comparisons.In = refl

no_assign_follows : NeverFollows is_assign
no_assign_follows = record { condition = refl; operators = operator_no_assign; comparisons = comparison_no_assign; postfixes = postfix_no_assign; parenthesis = refl; from = refl; comma = refl }

-- ---- the two decisions

-- the arguments of a call do not begin as UPDATE's settings do
pub arguments_called : {xs : List Lexeme} {all : Trees} → ExpressionsSpelling xs all → (s : List Lexeme)
    → call_at (sign signs.OpenParenthesis ∷ (xs ++ (sign signs.CloseParenthesis ∷ s))) ≡ Some (xs ++ (sign signs.CloseParenthesis ∷ s))
unfolding call_at expect
arguments_called p s = rw ((list_avoids is_assign no_assign_follows p).falls (sign signs.CloseParenthesis ∷ s) refl) refl

-- elements do not begin as a heading does
pub elements_no_heading : {xs : List Lexeme} {all : Trees} → ExpressionsSpelling xs all → (s : List Lexeme) → heading_at (sign signs.OpenBrace ∷ (xs ++ (sign signs.CloseBrace ∷ s))) ≡ false
unfolding heading_at expect
elements_no_heading {xs} p s =
    let none : expect (sign signs.CloseBrace) (xs ++ (sign signs.CloseBrace ∷ s)) ≡ None = begins_no (sign signs.CloseBrace) true true xs (sign signs.CloseBrace ∷ s) refl (expressions_begin p) in
    rw (none, (list_avoids begins_type no_type_follows p).falls (sign signs.CloseBrace ∷ s) refl) refl

type_begins : (n : Text) {xs : List Lexeme} {t : TypeTree} → TypeSpelling xs t → (s : List Lexeme) → name_and begins_type (lexeme.name n ∷ (xs ++ s)) ≡ true
type_begins n integer_type s = refl
type_begins n char_type s = refl
type_begins n boolean_type s = refl
type_begins n user_type s = refl
type_begins n (relation_type p) s = refl
type_begins n (tuple_type p) s = refl

attributes_begin : {xs : List Lexeme} {h : AttributeTrees} → AttributesSpelling xs h → (s : List Lexeme) → heading_at (sign signs.OpenBrace ∷ (xs ++ s)) ≡ true
unfolding heading_at expect
attributes_begin (last_attribute {n} {xs} p) s = rw (type_begins n p s) refl
attributes_begin (next_attribute {n} {xs} {ys} p q) s = rw (append_assoc xs (comma ∷ ys) s, type_begins n p (comma ∷ (ys ++ s))) refl

pub heading_is : {xs : List Lexeme} {h : AttributeTrees} → HeadingSpelling xs h → (s : List Lexeme) → heading_at (xs ++ s) ≡ true
unfolding heading_at expect
heading_is empty_heading s = refl
heading_is (grammar.heading {xs} {h} p) s = rw (append_assoc xs (sign signs.CloseBrace ∷ []) s) (attributes_begin p (sign signs.CloseBrace ∷ s))
