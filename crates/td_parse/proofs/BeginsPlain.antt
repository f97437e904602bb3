-- What is spelled as a postfix or primary expression begins with no operator before an operand.
use Rattle.std.proofs.Common.{◌≡◌, ℕ, List, [], ◌∷◌, ◌++◌, None, refl, append_assoc}
use Rattle.td_tree.specs.declared.keyword.Keyword.TheVariants as k
use Rattle.td_tree.specs.declared.operator.Aggregate.{Aggregate}
use Rattle.td_tree.specs.declared.operator.Aggregate.TheVariants as aggregates
use Rattle.td_tree.specs.declared.operator.Level.{Level}
use Rattle.td_tree.specs.declared.operator.Level.TheVariants as levels
use Rattle.td_tree.specs.declared.operator.Measure.{Measure}
use Rattle.td_tree.specs.declared.operator.Measure.TheVariants as measures
use Rattle.td_tree.specs.declared.operator.Operator.{Operator}
use Rattle.td_tree.specs.declared.operator.Operator.TheVariants as operators
use Rattle.td_tree.specs.declared.token.Sign.TheVariants as signs
use Rattle.td_tree.specs.model.Grammar.{tighter, level_of, measure_word, aggregate_word, Spelling, looser, binding, restriction, between, negation, comparison, minus, closure, tuple_from, extraction, behind, literal, reference, selector, component, parentheses, measure, aggregate, headed_relation, relation, empty_tuple, tuple, extension, setting_extension, summary_per, summary_by, choice, LiteralSpelling, number_literal, minus_literal, text_literal, true_literal, false_literal, dee_literal, dum_literal, PostfixSpelling, projection, renamings, renamings_in_braces, grouping, wrapping, open_grouping, open_wrapping, ungrouping, unwrapping, AttributeListSpelling, only_names, all_but_names}
use Rattle.td_tree.specs.model.Grammar as grammar
use Rattle.td_tree.specs.model.Lexemes.{Lexeme, keyword, sign}
use Rattle.td_tree.specs.model.Lexemes as lexeme
use Rattle.td_parse.specs.code.ReadingOperators.{prefix_at, extraction_at}
use Rattle.td_parse.specs.code.ReadingSteps.{expect}
use Rattle.td_tree.specs.model.Trees.{Attributes, Literal, Postfix, Tree}

abbrev pub from : Lexeme
from = keyword k.From

-- no operator stands before, whatever but FROM follows
pub record IsPlain (xs : List Lexeme) : Type 0 where
  pub no_prefix : (s : List Lexeme) → prefix_at (xs ++ s) ≡ None
  pub no_extraction : (s : List Lexeme) → expect from s ≡ None → extraction_at (xs ++ s) ≡ None

abbrev pub Plain : Level → List Lexeme → Type 0
Plain levels.Postfixed xs = IsPlain xs
Plain levels.Primary xs = IsPlain xs
Plain _ xs = Unit {0}

plain_looser : (level : Level) (xs : List Lexeme) → Plain (tighter level) xs → Plain level xs
plain_looser levels.Postfixed xs h = h
plain_looser levels.Primary xs h = h
plain_looser levels.Binding xs h = tt
plain_looser levels.Restriction xs h = tt
plain_looser levels.Disjunction xs h = tt
plain_looser levels.Conjunction xs h = tt
plain_looser levels.Negation xs h = tt
plain_looser levels.Comparison xs h = tt
plain_looser levels.Relational xs h = tt
plain_looser levels.Additive xs h = tt
plain_looser levels.Multiplicative xs h = tt
plain_looser levels.Prefixed xs h = tt

plain_between : (op : Operator) (xs : List Lexeme) → Plain (level_of op) xs
plain_between operators.Or xs = tt
plain_between operators.And xs = tt
plain_between operators.Union xs = tt
plain_between operators.Intersect xs = tt
plain_between operators.Minus xs = tt
plain_between operators.Join xs = tt
plain_between operators.Times xs = tt
plain_between operators.Compose xs = tt
plain_between operators.Matching xs = tt
plain_between operators.NotMatching xs = tt
plain_between operators.DisjointUnion xs = tt
plain_between operators.IncludedMinus xs = tt
plain_between operators.Add xs = tt
plain_between operators.Subtract xs = tt
plain_between operators.Concatenate xs = tt
plain_between operators.Multiply xs = tt
plain_between operators.Divide xs = tt

list_no_from : {xs : List Lexeme} {a : Attributes} → AttributeListSpelling xs a → (s : List Lexeme) → expect from (xs ++ s) ≡ None
unfolding expect
list_no_from (only_names (grammar.names p)) s = refl
list_no_from (all_but_names p) s = refl

postfix_no_from : {xs : List Lexeme} {p : Postfix} → PostfixSpelling xs p → (s : List Lexeme) → expect from (xs ++ s) ≡ None
unfolding expect
postfix_no_from (projection q) s = list_no_from q s
postfix_no_from (renamings q) s = refl
postfix_no_from (renamings_in_braces q) s = refl
postfix_no_from (grouping q) s = refl
postfix_no_from (wrapping q) s = refl
postfix_no_from (open_grouping q) s = refl
postfix_no_from (open_wrapping q) s = refl
postfix_no_from ungrouping s = refl
postfix_no_from unwrapping s = refl

plain_behind : (xs ys : List Lexeme) (p : Postfix) → PostfixSpelling ys p → IsPlain xs → IsPlain (xs ++ ys)
plain_behind xs ys p q h = record {
  no_prefix = λ s. rw (append_assoc xs ys s) (h.no_prefix (ys ++ s));
  no_extraction = λ s st. rw (append_assoc xs ys s) (h.no_extraction (ys ++ s) (postfix_no_from q s));
}

plain_literal : {xs : List Lexeme} {l : Literal} → LiteralSpelling xs l → IsPlain xs
unfolding prefix_at extraction_at
plain_literal (number_literal h) = record { no_prefix = λ s. refl; no_extraction = λ s st. refl }
plain_literal (minus_literal h) = record { no_prefix = λ s. refl; no_extraction = λ s st. refl }
plain_literal text_literal = record { no_prefix = λ s. refl; no_extraction = λ s st. refl }
plain_literal true_literal = record { no_prefix = λ s. refl; no_extraction = λ s st. refl }
plain_literal false_literal = record { no_prefix = λ s. refl; no_extraction = λ s st. refl }
plain_literal dee_literal = record { no_prefix = λ s. refl; no_extraction = λ s st. refl }
plain_literal dum_literal = record { no_prefix = λ s. refl; no_extraction = λ s st. refl }

-- one name, or a name before another sign
plain_name : (n : List ℕ) → IsPlain (lexeme.name n ∷ [])
unfolding prefix_at extraction_at
plain_name n = record { no_prefix = λ s. refl; no_extraction = λ s st. rw st refl }

plain_call : (n : List ℕ) (xs : List Lexeme) → IsPlain (lexeme.name n ∷ (sign signs.OpenParenthesis ∷ xs))
unfolding prefix_at extraction_at expect
plain_call n xs = record { no_prefix = λ s. refl; no_extraction = λ s st. refl }

plain_component : (n : List ℕ) (xs : List Lexeme) → IsPlain (lexeme.component n ∷ xs)
unfolding prefix_at extraction_at
plain_component n xs = record { no_prefix = λ s. refl; no_extraction = λ s st. refl }

plain_parenthesis : (xs : List Lexeme) → IsPlain (sign signs.OpenParenthesis ∷ xs)
unfolding prefix_at extraction_at
plain_parenthesis xs = record { no_prefix = λ s. refl; no_extraction = λ s st. refl }

plain_measure : (op : Measure) (xs : List Lexeme) → IsPlain (keyword (measure_word op) ∷ xs)
unfolding prefix_at extraction_at
plain_measure measures.Count xs = record { no_prefix = λ s. refl; no_extraction = λ s st. refl }
plain_measure measures.IsEmpty xs = record { no_prefix = λ s. refl; no_extraction = λ s st. refl }

plain_aggregate : (op : Aggregate) (xs : List Lexeme) → IsPlain (keyword (aggregate_word op) ∷ xs)
unfolding prefix_at extraction_at
plain_aggregate aggregates.Sum xs = record { no_prefix = λ s. refl; no_extraction = λ s st. refl }
plain_aggregate aggregates.Max xs = record { no_prefix = λ s. refl; no_extraction = λ s st. refl }
plain_aggregate aggregates.Min xs = record { no_prefix = λ s. refl; no_extraction = λ s st. refl }

plain_relation : (xs : List Lexeme) → IsPlain (keyword k.Relation ∷ xs)
unfolding prefix_at extraction_at
plain_relation xs = record { no_prefix = λ s. refl; no_extraction = λ s st. refl }

plain_tuple : (xs : List Lexeme) → IsPlain (keyword k.Tuple ∷ (sign signs.OpenBrace ∷ xs))
unfolding prefix_at extraction_at expect
plain_tuple xs = record { no_prefix = λ s. refl; no_extraction = λ s st. refl }

plain_extend : (xs : List Lexeme) → IsPlain (keyword k.Extend ∷ xs)
unfolding prefix_at extraction_at
plain_extend xs = record { no_prefix = λ s. refl; no_extraction = λ s st. refl }

plain_summarize : (xs : List Lexeme) → IsPlain (keyword k.Summarize ∷ xs)
unfolding prefix_at extraction_at
plain_summarize xs = record { no_prefix = λ s. refl; no_extraction = λ s st. refl }

plain_if : (xs : List Lexeme) → IsPlain (keyword k.If ∷ xs)
unfolding prefix_at extraction_at
plain_if xs = record { no_prefix = λ s. refl; no_extraction = λ s st. refl }

pub plain : {level : Level} {xs : List Lexeme} {t : Tree} → Spelling level xs t → Plain level xs
plain (looser {level} {xs} p) = plain_looser level xs (plain p)
plain (binding p q) = tt
plain (restriction p q) = tt
plain (between {op} p q) = plain_between op _
plain (negation p) = tt
plain (comparison p q) = tt
plain (minus h p) = tt
plain (closure p) = tt
plain (tuple_from p) = tt
plain (extraction p) = tt
plain (behind {xs} {ys} {a} {p} q r) = plain_behind xs ys p r (plain q)
plain (literal p) = plain_literal p
plain (reference {n}) = plain_name n
plain (selector {n} p) = plain_call n _
plain (component {rest} p) = plain_component rest _
plain (parentheses p) = plain_parenthesis _
plain (measure {op} p) = plain_measure op _
plain (aggregate {op} p q) = plain_aggregate op _
plain (headed_relation p q) = plain_relation _
plain (relation p) = plain_relation _
plain empty_tuple = plain_tuple _
plain (tuple p) = plain_tuple _
plain (extension p q) = plain_extend _
plain (setting_extension p q) = plain_extend _
plain (summary_per p q r) = plain_summarize _
plain (summary_by p q r) = plain_summarize _
plain (choice p q r) = plain_if _
