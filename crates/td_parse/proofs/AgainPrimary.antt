-- Primary expressions that are spelled are read again, and so are names by WITH.
use Rattle.std.proofs.Common.{◌≡◌, ℕ, ◌≤◌, true, false, List, [], ◌∷◌, ◌++◌, Some, None, refl, append_assoc, arith}
use Rattle.std.proofs.lemmas.Bool.{le-leb}
use Rattle.td_tree.specs.declared.keyword.Keyword.TheVariants as k
use Rattle.td_tree.specs.declared.operator.Aggregate.{Aggregate}
use Rattle.td_tree.specs.declared.operator.Aggregate.TheVariants as aggregates
use Rattle.td_tree.specs.declared.operator.Level.TheVariants as levels
use Rattle.td_tree.specs.declared.operator.Measure.{Measure}
use Rattle.td_tree.specs.declared.operator.Measure.TheVariants as measures
use Rattle.td_tree.specs.declared.token.Sign.TheVariants as signs
use Rattle.td_tree.specs.model.Grammar.{measure_word, aggregate_word, AttributeListSpelling, LiteralSpelling, number_literal, minus_literal, text_literal, true_literal, false_literal, dee_literal, dum_literal, ExpressionsSpelling, HeadingSpelling, PartsSpelling, last_part, next_part, loosest}
use Rattle.td_tree.specs.model.Heights.{height, highest, highest_named, highest_summary, type_height}
use Rattle.td_tree.specs.model.Lexemes.{Lexeme, keyword, sign}
use Rattle.td_tree.specs.model.Lexemes as lexeme
use Rattle.td_tree.specs.model.Lists.{with_braces, with_parentheses}
use Rattle.td_tree.specs.model.Numbers.{numeral_limit}
use Rattle.td_parse.specs.code.Reading.{numeral, negative, part, addition, setting, summary, summaries, name_expression, component_of, measure_expression, aggregate_expression, headed_relation, elements, relation, tuple, extension_adding, extension_setting, extension, summary_per, summary_by, summarize_expression, choice, primary_of_word, primary_of_sign, primary, binding_expression, binding, by_level, read}
use Rattle.td_parse.specs.code.Reading as reading
use Rattle.td_parse.specs.code.ReadingOperators.{call_at}
use Rattle.td_parse.specs.code.ReadingSteps.{expect, read_up_to, in_parentheses_read, listed_to}
use Rattle.td_tree.specs.model.Trees as tree
use Rattle.td_tree.specs.model.Trees.{Text, AttributeTrees, Attributes, Literal, Tree, Trees, NamedTrees, Summaries}
use Rattle.td_parse.proofs.Again.{Again, Reads}
use Rattle.td_parse.proofs.AgainLists.{comma, closed_again, listed_again, empty_again, up_to_again, enclosed_again, enclosed_items_again, braced_items_again, brace_closes, parenthesis_closes}
use Rattle.td_parse.proofs.AgainNames.{Anything, attributes_again}
use Rattle.td_parse.proofs.AgainParts.{ListAgain, PartsAgain, AdditionsAgain, SettingsAgain, SummariesAgain, expression_item, tree_items, trees_back, named_items, named_back, summary_items, summaries_back}
use Rattle.td_parse.proofs.AgainTypes.{relation_heading_again}
use Rattle.td_parse.proofs.Begins.{begins_no, expressions_begin}
use Rattle.td_parse.proofs.BeginsNames.{arguments_called, elements_no_heading, heading_is}
use Rattle.td_parse.proofs.Stops.{Ends, close_stops, close_brace_stops, comma_stops, then_stops, else_stops, end_stops, add_stops, colon_stops, per_stops, by_stops}

abbrev close : Lexeme
close = sign signs.CloseParenthesis

abbrev close_brace : Lexeme
close_brace = sign signs.CloseBrace

abbrev open_brace : Lexeme
open_brace = sign signs.OpenBrace

-- ---- literals and names

pub literal_reads : {xs : List Lexeme} {l : Literal} → LiteralSpelling xs l → Reads levels.Primary xs (tree.literal l)
unfolding by_level primary primary_of_word primary_of_sign negative numeral
literal_reads (number_literal {n} h) = record { gets = λ d s lt st. rw (le-leb n (numeral_limit false) h) refl }
literal_reads (minus_literal {n} h) = record { gets = λ d s lt st. rw (le-leb n (numeral_limit true) h) refl }
literal_reads text_literal = record { gets = λ d s lt st. refl }
literal_reads true_literal = record { gets = λ d s lt st. refl }
literal_reads false_literal = record { gets = λ d s lt st. refl }
literal_reads dee_literal = record { gets = λ d s lt st. refl }
literal_reads dum_literal = record { gets = λ d s lt st. refl }

pub reference_reads : (n : Text) → Reads levels.Primary (lexeme.name n ∷ []) (tree.name n)
unfolding by_level primary name_expression
reference_reads n = record { gets = λ d s lt st. rw st.0 refl }

pub empty_call_reads : (n : Text) → Reads levels.Primary (lexeme.name n ∷ with_parentheses []) (tree.select n tree.none)
unfolding by_level primary name_expression call_at expect
empty_call_reads n = record { gets = λ d s lt st. rw (empty_again (read d loosest) close parenthesis_closes s) refl }

-- a list up to what closes it
list_closed : (xs s : List Lexeme) (all : Trees) (d : ℕ) → ListAgain xs all → ExpressionsSpelling xs all → highest all ≤ d → listed_to close (read d loosest) (xs ++ (close ∷ s)) ≡ Some (tree_items all, s)
list_closed xs s all d r p lt =
    listed_again (read d loosest) Ends xs (tree_items all) close parenthesis_closes (r.reads d lt) s (close_stops s) (begins_no close true true xs (close ∷ s) refl (expressions_begin p))

list_braced : (xs s : List Lexeme) (all : Trees) (d : ℕ) → ListAgain xs all → ExpressionsSpelling xs all → highest all ≤ d → listed_to close_brace (read d loosest) (xs ++ (close_brace ∷ s)) ≡ Some (tree_items all, s)
list_braced xs s all d r p lt =
    listed_again (read d loosest) Ends xs (tree_items all) close_brace brace_closes (r.reads d lt) s (close_brace_stops s) (begins_no close_brace true true xs (close_brace ∷ s) refl (expressions_begin p))

pub call_reads : (n : Text) (xs : List Lexeme) (all : Trees) → ListAgain xs all → ExpressionsSpelling xs all → Reads levels.Primary (lexeme.name n ∷ with_parentheses xs) (tree.select n all)
unfolding by_level primary name_expression
call_reads n xs all r p = record {
  gets = λ d s lt st. rw (append_assoc xs (close ∷ []) s, arguments_called p s, list_closed xs s all d r p (omega arith), trees_back all) refl;
}

-- ---- one or two expressions in parentheses

one_enclosed : (xs s : List Lexeme) (a : Tree) (d : ℕ) → Again loosest xs a → height a ≤ d → in_parentheses_read (read d loosest) (sign signs.OpenParenthesis ∷ ((xs ++ (close ∷ [])) ++ s)) ≡ Some (a, s)
one_enclosed xs s a d r lt = enclosed_again (read d loosest) Ends xs a (expression_item xs a d r lt) s (close_stops s)

one_closed : (xs s : List Lexeme) (a : Tree) (d : ℕ) → Again loosest xs a → height a ≤ d → read_up_to close (read d loosest) (xs ++ (close ∷ s)) ≡ Some (a, s)
one_closed xs s a d r lt = up_to_again (read d loosest) Ends xs a close parenthesis_closes.is_close (expression_item xs a d r lt) s (close_stops s)

pub component_reads : (rest : Text) (xs : List Lexeme) (a : Tree) → Again loosest xs a → Reads levels.Primary (lexeme.component rest ∷ with_parentheses xs) (tree.component rest a)
unfolding by_level primary component_of
component_reads rest xs a r = record { gets = λ d s lt st. rw (one_enclosed xs s a d r (omega arith)) refl }

pub parentheses_reads : (xs : List Lexeme) (a : Tree) → Again loosest xs a → Reads levels.Primary (with_parentheses xs) (tree.parentheses a)
unfolding by_level primary primary_of_sign reading.parenthesis_expression
parentheses_reads xs a r = record { gets = λ d s lt st. rw (append_assoc xs (close ∷ []) s, one_closed xs s a d r (omega arith)) refl }

measure_is : (op : Measure) (d : ℕ) (ts : List Lexeme) → primary (read d) d (keyword (measure_word op) ∷ ts) ≡ measure_expression (read d) d op ts
unfolding primary primary_of_word
measure_is measures.Count d ts = refl
measure_is measures.IsEmpty d ts = refl

pub measure_reads : (op : Measure) (xs : List Lexeme) (a : Tree) → Again loosest xs a → Reads levels.Primary (keyword (measure_word op) ∷ with_parentheses xs) (tree.measure op a)
unfolding by_level measure_expression
measure_reads op xs a r = record { gets = λ d s lt st. rw (measure_is op d (sign signs.OpenParenthesis ∷ ((xs ++ (close ∷ [])) ++ s)), one_enclosed xs s a d r (omega arith)) refl }

aggregate_is : (op : Aggregate) (d : ℕ) (ts : List Lexeme) → primary (read d) d (keyword (aggregate_word op) ∷ ts) ≡ aggregate_expression (read d) d op ts
unfolding primary primary_of_word
aggregate_is aggregates.Sum d ts = refl
aggregate_is aggregates.Max d ts = refl
aggregate_is aggregates.Min d ts = refl

comma_is : (s : List Lexeme) → expect comma (comma ∷ s) ≡ Some s
unfolding expect
comma_is s = refl

two_enclosed : (op : Aggregate) (xs ys s : List Lexeme) (a b : Tree) (d : ℕ) → Again loosest xs a → Again loosest ys b → height a ≤ d → height b ≤ d
    → aggregate_expression (read d) d op (sign signs.OpenParenthesis ∷ (((xs ++ (comma ∷ ys)) ++ (close ∷ [])) ++ s)) ≡ Some (tree.aggregate op a b, s)
unfolding aggregate_expression expect
two_enclosed op xs ys s a b d p q la lb =
    let regroup : ((xs ++ (comma ∷ ys)) ++ (close ∷ [])) ++ s ≡ xs ++ (comma ∷ (ys ++ (close ∷ s))) = simp append_assoc in
    let first : read_up_to comma (read d loosest) (xs ++ (comma ∷ (ys ++ (close ∷ s)))) ≡ Some (a, ys ++ (close ∷ s))
    = up_to_again (read d loosest) Ends xs a comma comma_is (expression_item xs a d p la) (ys ++ (close ∷ s)) (comma_stops (ys ++ (close ∷ s))) in
    rw (regroup, first, one_closed ys s b d q lb) refl

pub aggregate_reads : (op : Aggregate) (xs ys : List Lexeme) (a b : Tree) → Again loosest xs a → Again loosest ys b
    → Reads levels.Primary (keyword (aggregate_word op) ∷ with_parentheses (xs ++ (comma ∷ ys))) (tree.aggregate op a b)
unfolding by_level
aggregate_reads op xs ys a b p q = record {
  gets = λ d s lt st. rw (aggregate_is op d (sign signs.OpenParenthesis ∷ (((xs ++ (comma ∷ ys)) ++ (close ∷ [])) ++ s))) (two_enclosed op xs ys s a b d p q (omega arith) (omega arith));
}

-- ---- relations and tuples

empty_headed : (hs : List Lexeme) (h : AttributeTrees) → HeadingSpelling hs h → (d : ℕ) (s : List Lexeme) → type_height (tree.relation_type h) ≤ d
    → headed_relation (read d) d (hs ++ (open_brace ∷ (close_brace ∷ s))) ≡ Some (tree.headed_relation h tree.none, s)
unfolding headed_relation expect
empty_headed hs h p d s lt = rw (relation_heading_again p d (open_brace ∷ (close_brace ∷ s)) lt, empty_again (read d loosest) close_brace brace_closes s) refl

pub empty_headed_reads : (hs : List Lexeme) (h : AttributeTrees) → HeadingSpelling hs h → Reads levels.Primary (keyword k.Relation ∷ (hs ++ with_braces [])) (tree.headed_relation h tree.none)
unfolding by_level primary primary_of_word relation
empty_headed_reads hs h p = record {
  gets = λ d s lt st. rw (append_assoc hs (with_braces []) s, heading_is p (open_brace ∷ (close_brace ∷ s))) (empty_headed hs h p d s (omega arith));
}

headed : (hs xs : List Lexeme) (h : AttributeTrees) (all : Trees) → HeadingSpelling hs h → ListAgain xs all → ExpressionsSpelling xs all → (d : ℕ) (s : List Lexeme) → type_height (tree.relation_type h) ≤ d → highest all ≤ d
    → headed_relation (read d) d (hs ++ (open_brace ∷ (xs ++ (close_brace ∷ s)))) ≡ Some (tree.headed_relation h all, s)
unfolding headed_relation expect
headed hs xs h all p r q d s lh la = rw (relation_heading_again p d (open_brace ∷ (xs ++ (close_brace ∷ s))) lh, list_braced xs s all d r q la, trees_back all) refl

pub headed_reads : (hs xs : List Lexeme) (h : AttributeTrees) (all : Trees) → HeadingSpelling hs h → ListAgain xs all → ExpressionsSpelling xs all
    → Reads levels.Primary (keyword k.Relation ∷ (hs ++ with_braces xs)) (tree.headed_relation h all)
unfolding by_level primary primary_of_word relation
headed_reads hs xs h all p r q = record {
  gets = λ d s lt st.
      rw (append_assoc hs (with_braces xs) s, append_assoc xs (close_brace ∷ []) s, heading_is p (open_brace ∷ (xs ++ (close_brace ∷ s)))) (headed hs xs h all p r q d s (omega arith) (omega arith));
}

elements_again : (xs : List Lexeme) (all : Trees) → ListAgain xs all → (d : ℕ) (s : List Lexeme) → highest all ≤ d → elements (read d) d (open_brace ∷ (xs ++ (close_brace ∷ s))) ≡ Some (tree.relation all, s)
unfolding elements expect
elements_again xs all r d s lt = rw (closed_again (read d loosest) Ends xs (tree_items all) close_brace brace_closes (r.reads d lt) s (close_brace_stops s), trees_back all) refl

pub relation_reads : (xs : List Lexeme) (all : Trees) → ListAgain xs all → ExpressionsSpelling xs all → Reads levels.Primary (keyword k.Relation ∷ with_braces xs) (tree.relation all)
unfolding by_level primary primary_of_word relation
relation_reads xs all r p = record { gets = λ d s lt st. rw (append_assoc xs (close_brace ∷ []) s, elements_no_heading p s) (elements_again xs all r d s (omega arith)) }

pub empty_tuple_reads : Reads levels.Primary (keyword k.Tuple ∷ with_braces []) (tree.tuple tree.none_named)
unfolding by_level primary primary_of_word tuple expect
empty_tuple_reads = record { gets = λ d s lt st. rw (empty_again (part (read d) d) close_brace brace_closes s) refl }

parts_begin : {xs : List Lexeme} {parts : NamedTrees} → PartsSpelling xs parts → (s : List Lexeme) → expect close_brace (xs ++ s) ≡ None
unfolding expect
parts_begin (last_part p) s = refl
parts_begin (next_part p q) s = refl

pub tuple_reads : (xs : List Lexeme) (parts : NamedTrees) → PartsAgain xs parts → PartsSpelling xs parts → Reads levels.Primary (keyword k.Tuple ∷ with_braces xs) (tree.tuple parts)
unfolding by_level primary primary_of_word tuple expect
tuple_reads xs parts r p = record {
  gets = λ d s lt st.
      let all : listed_to close_brace (part (read d) d) (xs ++ (close_brace ∷ s)) ≡ Some (named_items parts, s)
      = listed_again (part (read d) d) Ends xs (named_items parts) close_brace brace_closes (r.reads d (omega arith)) s (close_brace_stops s) (parts_begin p (close_brace ∷ s)) in
      rw (append_assoc xs (close_brace ∷ []) s, all, named_back parts) refl;
}

-- ---- EXTEND, SUMMARIZE and IF

adding_again : (ys : List Lexeme) (a : Tree) (parts : NamedTrees) → AdditionsAgain ys parts → (d : ℕ) (s : List Lexeme) → highest_named parts ≤ d → extension_adding (read d) d a (with_parentheses ys ++ s) ≡ Some (tree.extend a parts, s)
unfolding extension_adding
adding_again ys a parts r d s lt = rw (enclosed_items_again (addition (read d) d) Anything ys (named_items parts) (r.reads d lt) s tt, named_back parts) refl

pub extension_reads : (xs ys : List Lexeme) (a : Tree) (parts : NamedTrees) → Again loosest xs a → AdditionsAgain ys parts
    → Reads levels.Primary (keyword k.Extend ∷ (xs ++ (keyword k.Add ∷ with_parentheses ys))) (tree.extend a parts)
unfolding by_level primary primary_of_word extension expect
extension_reads xs ys a parts p r = record {
  gets = λ d s lt st.
      let last : List Lexeme = with_parentheses ys ++ s in
      rw (append_assoc xs (keyword k.Add ∷ with_parentheses ys) s, p.reads d (keyword k.Add ∷ last) (omega arith) (add_stops last)) (adding_again ys a parts r d s (omega arith));
}

setting_again : (ys : List Lexeme) (a : Tree) (settings : NamedTrees) → SettingsAgain ys settings → (d : ℕ) (s : List Lexeme) → highest_named settings ≤ d → extension_setting (read d) d a (with_braces ys ++ s) ≡ Some (tree.extend_setting a settings, s)
unfolding extension_setting
setting_again ys a settings r d s lt = rw (braced_items_again (setting (read d) d) Ends ys (named_items settings) (r.reads d lt) s (close_brace_stops s), named_back settings) refl

pub setting_extension_reads : (xs ys : List Lexeme) (a : Tree) (settings : NamedTrees) → Again loosest xs a → SettingsAgain ys settings
    → Reads levels.Primary (keyword k.Extend ∷ (xs ++ (sign signs.Colon ∷ with_braces ys))) (tree.extend_setting a settings)
unfolding by_level primary primary_of_word extension expect
setting_extension_reads xs ys a settings p r = record {
  gets = λ d s lt st.
      let last : List Lexeme = with_braces ys ++ s in
      rw (append_assoc xs (sign signs.Colon ∷ with_braces ys) s, p.reads d (sign signs.Colon ∷ last) (omega arith) (colon_stops last)) (setting_again ys a settings r d s (omega arith));
}

summaries_again : (zs : List Lexeme) (items : Summaries) → SummariesAgain zs items → (d : ℕ) (s : List Lexeme) → highest_summary items ≤ d
    → summaries (read d) d (keyword k.Add ∷ (sign signs.OpenParenthesis ∷ ((zs ++ (close ∷ [])) ++ s))) ≡ Some (items, s)
unfolding summaries expect
summaries_again zs items r d s lt = rw (enclosed_items_again (summary (read d) d) Anything zs (summary_items items) (r.reads d lt) s tt, summaries_back items) refl

per_again : (ys zs : List Lexeme) (a b : Tree) (items : Summaries) → Again loosest ys b → SummariesAgain zs items → (d : ℕ) (s : List Lexeme) → height b ≤ d → highest_summary items ≤ d
    → summary_per (read d) d a (sign signs.OpenParenthesis ∷ (((ys ++ (close ∷ [])) ++ (keyword k.Add ∷ with_parentheses zs)) ++ s)) ≡ Some (tree.summarize_per a b items, s)
unfolding summary_per
per_again ys zs a b items p r d s lb li =
    rw (append_assoc (ys ++ (close ∷ [])) (keyword k.Add ∷ with_parentheses zs) s, one_enclosed ys (keyword k.Add ∷ (sign signs.OpenParenthesis ∷ ((zs ++ (close ∷ [])) ++ s))) b d p lb, summaries_again zs items r d s li) refl

pub summary_per_reads : (xs ys zs : List Lexeme) (a b : Tree) (items : Summaries) → Again loosest xs a → Again loosest ys b → SummariesAgain zs items
    → Reads levels.Primary (keyword k.Summarize ∷ (xs ++ (keyword k.Per ∷ (with_parentheses ys ++ (keyword k.Add ∷ with_parentheses zs))))) (tree.summarize_per a b items)
unfolding by_level primary primary_of_word summarize_expression expect
summary_per_reads xs ys zs a b items p q r = record {
  gets = λ d s lt st.
      let last : List Lexeme = sign signs.OpenParenthesis ∷ (((ys ++ (close ∷ [])) ++ (keyword k.Add ∷ with_parentheses zs)) ++ s) in
      rw (append_assoc xs (keyword k.Per ∷ (with_parentheses ys ++ (keyword k.Add ∷ with_parentheses zs))) s, p.reads d (keyword k.Per ∷ last) (omega arith) (per_stops last)) (per_again ys zs a b items q r d s (omega arith) (omega arith));
}

by_again : (ys zs : List Lexeme) (a : Tree) (by : Attributes) (items : Summaries) → AttributeListSpelling ys by → SummariesAgain zs items → (d : ℕ) (s : List Lexeme) → highest_summary items ≤ d
    → summary_by (read d) d a (ys ++ (keyword k.Add ∷ (sign signs.OpenParenthesis ∷ ((zs ++ (close ∷ [])) ++ s)))) ≡ Some (tree.summarize_by a by items, s)
unfolding summary_by
by_again ys zs a by items p r d s li = rw (attributes_again p (keyword k.Add ∷ (sign signs.OpenParenthesis ∷ ((zs ++ (close ∷ [])) ++ s))), summaries_again zs items r d s li) refl

pub summary_by_reads : (xs ys zs : List Lexeme) (a : Tree) (by : Attributes) (items : Summaries) → Again loosest xs a → AttributeListSpelling ys by → SummariesAgain zs items
    → Reads levels.Primary (keyword k.Summarize ∷ (xs ++ (keyword k.By ∷ (ys ++ (keyword k.Add ∷ with_parentheses zs))))) (tree.summarize_by a by items)
unfolding by_level primary primary_of_word summarize_expression expect
summary_by_reads xs ys zs a by items p q r = record {
  gets = λ d s lt st.
      let last : List Lexeme = ys ++ (keyword k.Add ∷ (sign signs.OpenParenthesis ∷ ((zs ++ (close ∷ [])) ++ s))) in
      rw (append_assoc xs (keyword k.By ∷ (ys ++ (keyword k.Add ∷ with_parentheses zs))) s, append_assoc ys (keyword k.Add ∷ with_parentheses zs) s, p.reads d (keyword k.By ∷ last) (omega arith) (by_stops last)) (by_again ys zs a by items q r d s (omega arith));
}

up_to_word : (w : Lexeme) (xs s : List Lexeme) (a : Tree) (d : ℕ) → ((s : List Lexeme) → expect w (w ∷ s) ≡ Some s) → Again loosest xs a → height a ≤ d → Ends (w ∷ s) → read_up_to w (read d loosest) (xs ++ (w ∷ s)) ≡ Some (a, s)
up_to_word w xs s a d is_word r lt st = up_to_again (read d loosest) Ends xs a w is_word (expression_item xs a d r lt) s st

then_is : (s : List Lexeme) → expect (keyword k.Then) (keyword k.Then ∷ s) ≡ Some s
unfolding expect
then_is s = refl

else_is : (s : List Lexeme) → expect (keyword k.Else) (keyword k.Else ∷ s) ≡ Some s
unfolding expect
else_is s = refl

end_is : (s : List Lexeme) → expect (keyword k.End) (keyword k.End ∷ s) ≡ Some s
unfolding expect
end_is s = refl

pub choice_reads : (xs ys zs : List Lexeme) (a b c : Tree) → Again loosest xs a → Again loosest ys b → Again loosest zs c
    → Reads levels.Primary (keyword k.If ∷ (xs ++ (keyword k.Then ∷ (ys ++ (keyword k.Else ∷ (zs ++ (keyword k.End ∷ (keyword k.If ∷ [])))))))) (tree.choice a b c)
unfolding by_level primary primary_of_word choice expect
choice_reads xs ys zs a b c p q r = record {
  gets = λ d s lt st.
      let last : List Lexeme = keyword k.If ∷ s in
      let third : List Lexeme = zs ++ (keyword k.End ∷ last) in
      let second : List Lexeme = ys ++ (keyword k.Else ∷ third) in
      let regroup : (xs ++ (keyword k.Then ∷ (ys ++ (keyword k.Else ∷ (zs ++ (keyword k.End ∷ (keyword k.If ∷ []))))))) ++ s ≡ xs ++ (keyword k.Then ∷ second) = simp append_assoc in
      rw (regroup, up_to_word (keyword k.Then) xs second a d then_is p (omega arith) (then_stops second), up_to_word (keyword k.Else) ys third b d else_is q (omega arith) (else_stops third), up_to_word (keyword k.End) zs last c d end_is r (omega arith) (end_stops last)) refl;
}

-- ---- WITH

named_again : (xs ys : List Lexeme) (items : NamedTrees) (a : Tree) → SettingsAgain xs items → Again loosest ys a → (d : ℕ) (s : List Lexeme) → highest_named items ≤ d → height a ≤ d → Ends s
    → binding_expression (read d) d (sign signs.OpenParenthesis ∷ ((xs ++ (close ∷ [])) ++ (sign signs.Colon ∷ (ys ++ s)))) ≡ Some (tree.binding items a, s)
unfolding binding_expression expect
named_again xs ys items a r p d s li la st =
    let last : List Lexeme = sign signs.Colon ∷ (ys ++ s) in
    rw (enclosed_items_again (setting (read d) d) Ends xs (named_items items) (r.reads d li) last (close_stops last), named_back items, p.reads d s la st) refl

pub binding_reads : (xs ys : List Lexeme) (items : NamedTrees) (a : Tree) → SettingsAgain xs items → Again loosest ys a
    → Reads levels.Binding (keyword k.With ∷ (with_parentheses xs ++ (sign signs.Colon ∷ ys))) (tree.binding items a)
unfolding by_level binding expect
binding_reads xs ys items a r p = record {
  gets = λ d s lt st. rw (append_assoc (xs ++ (close ∷ [])) (sign signs.Colon ∷ ys) s) (named_again xs ys items a r p d s (omega arith) (omega arith) st);
}
