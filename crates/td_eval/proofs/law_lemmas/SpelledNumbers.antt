-- The numbers in what tokens spell are in range: a number that is not is no literal.
use Rattle.std.proofs.Common.{List}
use Rattle.td_eval.specs.laws.TreeNumbers.{HasNumbers, HaveNumbers, IsInRangeLiteral, ItemsHaveNumbers, PartsHaveNumbers, SpelledNumbersAreInRange}
use Rattle.td_tree.specs.declared.operator.Level.{Level}
use Rattle.td_tree.specs.model.Grammar as g
use Rattle.td_tree.specs.model.Grammar.{AdditionsSpelling, ExpressionsSpelling, ListSpelling, LiteralSpelling, PartsSpelling, SettingsSpelling, Spelling, SummariesSpelling}
use Rattle.td_tree.specs.model.Lexemes.{Lexeme}
use Rattle.td_tree.specs.model.Trees.{Literal, NamedTrees, Summaries, Tree, Trees}

literal_in_range : {xs : List Lexeme} {l : Literal} → LiteralSpelling xs l → IsInRangeLiteral l
literal_in_range (g.number_literal low) = low
literal_in_range (g.minus_literal low) = low
literal_in_range g.text_literal = tt
literal_in_range g.true_literal = tt
literal_in_range g.false_literal = tt
literal_in_range g.dee_literal = tt
literal_in_range g.dum_literal = tt

mutual
  in_range : {level : Level} {xs : List Lexeme} {t : Tree} → Spelling level xs t → HasNumbers t
  in_range (g.looser p) = in_range p
  in_range (g.restriction p q) = (in_range p, in_range q)
  in_range (g.between p q) = (in_range p, in_range q)
  in_range (g.negation p) = in_range p
  in_range (g.comparison p q) = (in_range p, in_range q)
  in_range (g.minus b p) = in_range p
  in_range (g.closure p) = in_range p
  in_range (g.tuple_from p) = in_range p
  in_range (g.extraction p) = in_range p
  in_range (g.behind p q) = in_range p
  in_range (g.literal l) = literal_in_range l
  in_range g.reference = tt
  in_range (g.selector p) = list_in_range p
  in_range (g.component p) = in_range p
  in_range (g.parentheses p) = in_range p
  in_range (g.measure p) = in_range p
  in_range (g.aggregate p q) = (in_range p, in_range q)
  in_range (g.headed_relation a p) = list_in_range p
  in_range (g.relation p) = expressions_in_range p
  in_range g.empty_tuple = tt
  in_range (g.tuple p) = parts_in_range p
  in_range (g.extension p q) = (in_range p, additions_in_range q)
  in_range (g.setting_extension p q) = (in_range p, settings_in_range q)
  in_range (g.summary_per p q r) = (in_range p, in_range q, summaries_in_range r)
  in_range (g.summary_by p by r) = (in_range p, summaries_in_range r)
  in_range (g.choice p q r) = (in_range p, in_range q, in_range r)
  in_range (g.binding p q) = (settings_in_range p, in_range q)

  list_in_range : {xs : List Lexeme} {all : Trees} → ListSpelling xs all → HaveNumbers all
  list_in_range g.no_expressions = tt
  list_in_range (g.some_expressions p) = expressions_in_range p

  expressions_in_range : {xs : List Lexeme} {all : Trees} → ExpressionsSpelling xs all → HaveNumbers all
  expressions_in_range (g.last_expression p) = (in_range p, tt)
  expressions_in_range (g.next_expression p q) = (in_range p, expressions_in_range q)

  parts_in_range : {xs : List Lexeme} {parts : NamedTrees} → PartsSpelling xs parts → PartsHaveNumbers parts
  parts_in_range (g.last_part p) = (in_range p, tt)
  parts_in_range (g.next_part p q) = (in_range p, parts_in_range q)

  additions_in_range : {xs : List Lexeme} {parts : NamedTrees} → AdditionsSpelling xs parts → PartsHaveNumbers parts
  additions_in_range (g.last_addition p) = (in_range p, tt)
  additions_in_range (g.next_addition p q) = (in_range p, additions_in_range q)

  settings_in_range : {xs : List Lexeme} {parts : NamedTrees} → SettingsSpelling xs parts → PartsHaveNumbers parts
  settings_in_range (g.last_setting p) = (in_range p, tt)
  settings_in_range (g.next_setting p q) = (in_range p, settings_in_range q)

  summaries_in_range : {xs : List Lexeme} {items : Summaries} → SummariesSpelling xs items → ItemsHaveNumbers items
  summaries_in_range g.last_count = tt
  summaries_in_range (g.next_count p) = summaries_in_range p
  summaries_in_range (g.last_sum p) = (in_range p, tt)
  summaries_in_range (g.next_sum p q) = (in_range p, summaries_in_range q)

pub spelled_numbers_are_in_range : SpelledNumbersAreInRange
spelled_numbers_are_in_range level xs e p = in_range p
