-- Each expression that is spelled is read again: by induction on how it is spelled.
use Rattle.std.proofs.Common.{List, ◌∷◌, ◌++◌}
use Rattle.td_tree.specs.declared.keyword.Keyword.TheVariants as k
use Rattle.td_tree.specs.declared.operator.Level.{Level}
use Rattle.td_tree.specs.declared.operator.Level.TheVariants as levels
use Rattle.td_tree.specs.model.Grammar.{HeadingSpelling, Spelling, looser, binding, restriction, between, negation, comparison, minus, closure, tuple_from, extraction, behind, literal, reference, selector, component, parentheses, measure, aggregate, headed_relation, relation, empty_tuple, tuple, extension, setting_extension, summary_per, summary_by, choice, ListSpelling, no_expressions, some_expressions, ExpressionsSpelling, last_expression, next_expression, PartsSpelling, last_part, next_part, AdditionsSpelling, last_addition, next_addition, SettingsSpelling, last_setting, next_setting, SummariesSpelling, last_count, next_count, last_sum, next_sum, loosest}
use Rattle.td_tree.specs.model.Lexemes.{Lexeme, keyword}
use Rattle.td_tree.specs.model.Lexemes as lexeme
use Rattle.td_tree.specs.model.Lists.{with_braces, with_parentheses}
use Rattle.td_tree.specs.model.Trees as tree
use Rattle.td_tree.specs.model.Trees.{Text, AttributeTrees, Tree, Trees, NamedTrees, Summaries}
use Rattle.td_parse.specs.declared.operators.Link.TheVariants as links
use Rattle.td_parse.proofs.Again.{Again, Reads, again_from, alone, link_reads, comparison_reads, negation_reads, minus_reads, closure_reads, tuple_from_reads, extraction_reads, behind_reads}
use Rattle.td_parse.proofs.AgainParts.{ListAgain, PartsAgain, AdditionsAgain, SettingsAgain, SummariesAgain, last_expression_reads, next_expression_reads, last_part_reads, next_part_reads, last_addition_reads, next_addition_reads, last_setting_reads, next_setting_reads, last_count_reads, next_count_reads, last_sum_reads, next_sum_reads}
use Rattle.td_parse.proofs.AgainPrimary.{literal_reads, reference_reads, empty_call_reads, call_reads, component_reads, parentheses_reads, measure_reads, aggregate_reads, empty_headed_reads, headed_reads, relation_reads, empty_tuple_reads, tuple_reads, extension_reads, setting_extension_reads, summary_per_reads, summary_by_reads, choice_reads, binding_reads}
use Rattle.td_parse.proofs.Begins.{spelled_begins}
use Rattle.td_parse.proofs.BeginsPlain.{plain}

whole : {xs : List Lexeme} {t : Tree} → Reads loosest xs t → Again loosest xs t
whole {xs} {t} r = again_from loosest xs t r

mutual
  pub reads : {level : Level} {xs : List Lexeme} {t : Tree} → Spelling level xs t → Reads level xs t
  reads (looser {level} {xs} {a} p) = alone level xs a (spelled_begins p) (plain p) (reads p)
  reads (binding {xs} {ys} {items} {a} p q) = binding_reads xs ys items a (settings_again p) (whole (reads q))
  reads (restriction {xs} {ys} {a} {p} q r) = link_reads links.Where xs ys a p (reads q) (reads r)
  reads (between {op} {xs} {ys} {a} {b} p q) = link_reads (links.Operator op) xs ys a b (reads p) (reads q)
  reads (negation {xs} {a} p) = negation_reads xs a (again_from levels.Negation xs a (reads p))
  reads (comparison {op} {xs} {ys} {a} {b} p q) = comparison_reads op xs ys a b (reads p) (reads q)
  reads (minus {xs} {a} h p) = minus_reads xs a h (spelled_begins p) (again_from levels.Prefixed xs a (reads p))
  reads (closure {xs} {a} p) = closure_reads xs a (again_from levels.Prefixed xs a (reads p))
  reads (tuple_from {xs} {a} p) = tuple_from_reads xs a (again_from levels.Prefixed xs a (reads p))
  reads (extraction {n} {xs} {a} p) = extraction_reads n xs a (again_from levels.Prefixed xs a (reads p))
  reads (behind {xs} {ys} {a} {p} q r) = behind_reads xs ys a p (reads q) r
  reads (literal p) = literal_reads p
  reads (reference {n}) = reference_reads n
  reads (selector {n} {xs} {all} p) = call_again n p
  reads (component {rest} {xs} {a} p) = component_reads rest xs a (whole (reads p))
  reads (parentheses {xs} {a} p) = parentheses_reads xs a (whole (reads p))
  reads (measure {op} {xs} {a} p) = measure_reads op xs a (whole (reads p))
  reads (aggregate {op} {xs} {ys} {a} {b} p q) = aggregate_reads op xs ys a b (whole (reads p)) (whole (reads q))
  reads (headed_relation {hs} {xs} {h} {all} p q) = headed_again p q
  reads (relation {xs} {all} p) = relation_reads xs all (list_again p) p
  reads empty_tuple = empty_tuple_reads
  reads (tuple {xs} {parts} p) = tuple_reads xs parts (parts_again p) p
  reads (extension {xs} {ys} {a} {parts} p q) = extension_reads xs ys a parts (whole (reads p)) (additions_again q)
  reads (setting_extension {xs} {ys} {a} {parts} p q) = setting_extension_reads xs ys a parts (whole (reads p)) (settings_again q)
  reads (summary_per {xs} {ys} {zs} {a} {b} {items} p q r) = summary_per_reads xs ys zs a b items (whole (reads p)) (whole (reads q)) (summaries_again r)
  reads (summary_by {xs} {ys} {zs} {a} {by} {items} p q r) = summary_by_reads xs ys zs a by items (whole (reads p)) q (summaries_again r)
  reads (choice {xs} {ys} {zs} {a} {b} {c} p q r) = choice_reads xs ys zs a b c (whole (reads p)) (whole (reads q)) (whole (reads r))

  call_again : (n : Text) {xs : List Lexeme} {all : Trees} → ListSpelling xs all → Reads levels.Primary (lexeme.name n ∷ with_parentheses xs) (tree.select n all)
  call_again n no_expressions = empty_call_reads n
  call_again n (some_expressions {xs} {all} p) = call_reads n xs all (list_again p) p

  headed_again : {hs xs : List Lexeme} {h : AttributeTrees} {all : Trees} → HeadingSpelling hs h → ListSpelling xs all → Reads levels.Primary (keyword k.Relation ∷ (hs ++ with_braces xs)) (tree.headed_relation h all)
  headed_again {hs} {xs} {h} {all} p no_expressions = empty_headed_reads hs h p
  headed_again {hs} {xs} {h} {all} p (some_expressions {xs = ys} {all = rest} q) = headed_reads hs ys h rest p (list_again q) q

  list_again : {xs : List Lexeme} {all : Trees} → ExpressionsSpelling xs all → ListAgain xs all
  list_again (last_expression {xs} {a} p) = last_expression_reads xs a (whole (reads p))
  list_again (next_expression {xs} {ys} {a} {all} p q) = next_expression_reads xs ys a all (whole (reads p)) (list_again q)

  parts_again : {xs : List Lexeme} {parts : NamedTrees} → PartsSpelling xs parts → PartsAgain xs parts
  parts_again (last_part {n} {xs} {a} p) = last_part_reads n xs a (whole (reads p))
  parts_again (next_part {n} {xs} {ys} {a} {parts} p q) = next_part_reads n xs ys a parts (whole (reads p)) (parts_again q)

  additions_again : {xs : List Lexeme} {parts : NamedTrees} → AdditionsSpelling xs parts → AdditionsAgain xs parts
  additions_again (last_addition {n} {xs} {a} p) = last_addition_reads n xs a (whole (reads p))
  additions_again (next_addition {n} {xs} {ys} {a} {parts} p q) = next_addition_reads n xs ys a parts (whole (reads p)) (additions_again q)

  pub settings_again : {xs : List Lexeme} {settings : NamedTrees} → SettingsSpelling xs settings → SettingsAgain xs settings
  settings_again (last_setting {n} {xs} {a} p) = last_setting_reads n xs a (whole (reads p))
  settings_again (next_setting {n} {xs} {ys} {a} {parts} p q) = next_setting_reads n xs ys a parts (whole (reads p)) (settings_again q)

  summaries_again : {xs : List Lexeme} {items : Summaries} → SummariesSpelling xs items → SummariesAgain xs items
  summaries_again (last_count {n}) = last_count_reads n
  summaries_again (next_count {n} {ys} {items} p) = next_count_reads n ys items (summaries_again p)
  summaries_again (last_sum {op} {n} {xs} {a} p) = last_sum_reads op n xs a (whole (reads p))
  summaries_again (next_sum {op} {n} {xs} {ys} {a} {items} p q) = next_sum_reads op n xs ys a items (whole (reads p)) (summaries_again q)
