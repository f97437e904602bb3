-- Lists of expressions, named expressions and summaries are read again.
use Rattle.std.proofs.Common.{◌≡◌, ℕ, ◌≤◌, List, [], ◌∷◌, ◌++◌, Some, refl, ap, subst, append_assoc, arith}
use Rattle.td_tree.specs.declared.keyword.Keyword.TheVariants as k
use Rattle.td_tree.specs.declared.operator.Aggregate.{Aggregate}
use Rattle.td_tree.specs.declared.operator.Aggregate.TheVariants as aggregates
use Rattle.td_tree.specs.declared.token.Sign.TheVariants as signs
use Rattle.td_tree.specs.model.Grammar.{aggregate_word, loosest}
use Rattle.td_tree.specs.model.Heights.{height, highest, highest_named, highest_summary}
use Rattle.td_tree.specs.model.Lexemes.{Lexeme, keyword, sign}
use Rattle.td_tree.specs.model.Lexemes as lexeme
use Rattle.td_tree.specs.model.Lists.{with_parentheses}
use Rattle.td_parse.specs.code.Reading.{trees_from, named_from, SummaryItem, count_item, sum_item, summaries_from, part, addition, setting, count_summary, sum_summary, summary_of_word, summary, read}
use Rattle.td_parse.specs.code.ReadingSteps.{expect, read_name, read_as}
use Rattle.td_tree.specs.model.Trees as tree
use Rattle.td_tree.specs.model.Trees.{Text, Tree, Trees, NamedTrees, Summaries}
use Rattle.td_parse.proofs.Again.{Again}
use Rattle.td_parse.proofs.AgainLists.{comma, ItemAgain, SeparatedAgain, last_again, next_again, enclosed_again}
use Rattle.td_parse.proofs.AgainNames.{Anything}
use Rattle.td_parse.proofs.Stops.{Ends, close_stops, comma_stops, as_stops}

-- ---- lists, one by one

abbrev pub tree_items : Trees → List Tree
tree_items tree.none = []
tree_items (tree.more a rest) = a ∷ tree_items rest

pub trees_back : (all : Trees) → trees_from (tree_items all) ≡ all
trees_back tree.none = refl
trees_back (tree.more a rest) = ap (λ r. tree.more a r) (trees_back rest)

abbrev pub named_items : NamedTrees → List (Text × Tree)
named_items tree.none_named = []
named_items (tree.more_named n a rest) = (n, a) ∷ named_items rest

pub named_back : (all : NamedTrees) → named_from (named_items all) ≡ all
named_back tree.none_named = refl
named_back (tree.more_named n a rest) = ap (λ r. tree.more_named n a r) (named_back rest)

abbrev pub summary_items : Summaries → List SummaryItem
summary_items tree.no_summaries = []
summary_items (tree.counted n rest) = count_item n ∷ summary_items rest
summary_items (tree.summed op a n rest) = sum_item op a n ∷ summary_items rest

pub summaries_back : (all : Summaries) → summaries_from (summary_items all) ≡ all
summaries_back tree.no_summaries = refl
summaries_back (tree.counted n rest) = ap (λ r. tree.counted n r) (summaries_back rest)
summaries_back (tree.summed op a n rest) = ap (λ r. tree.summed op a n r) (summaries_back rest)

-- ---- what reading them comes to

pub record ListAgain (xs : List Lexeme) (all : Trees) : Type 0 where
  pub reads : (d : ℕ) → highest all ≤ d → SeparatedAgain (read d loosest) Ends xs (tree_items all)

pub record PartsAgain (xs : List Lexeme) (parts : NamedTrees) : Type 0 where
  pub reads : (d : ℕ) → highest_named parts ≤ d → SeparatedAgain (part (read d) d) Ends xs (named_items parts)

pub record AdditionsAgain (xs : List Lexeme) (parts : NamedTrees) : Type 0 where
  pub reads : (d : ℕ) → highest_named parts ≤ d → SeparatedAgain (addition (read d) d) Anything xs (named_items parts)

pub record SettingsAgain (xs : List Lexeme) (settings : NamedTrees) : Type 0 where
  pub reads : (d : ℕ) → highest_named settings ≤ d → SeparatedAgain (setting (read d) d) Ends xs (named_items settings)

pub record SummariesAgain (xs : List Lexeme) (all : Summaries) : Type 0 where
  pub reads : (d : ℕ) → highest_summary all ≤ d → SeparatedAgain (summary (read d) d) Anything xs (summary_items all)

-- ---- items

pub expression_item : (xs : List Lexeme) (a : Tree) (d : ℕ) → Again loosest xs a → height a ≤ d → ItemAgain (read d loosest) Ends xs a
expression_item xs a d r lt = record { reads = λ s st. r.reads d s lt st }

part_item : (n : Text) (xs : List Lexeme) (a : Tree) (d : ℕ) → Again loosest xs a → height a ≤ d → ItemAgain (part (read d) d) Ends (lexeme.name n ∷ xs) (n, a)
unfolding part read_name
part_item n xs a d r lt = record { reads = λ s st. rw (r.reads d s lt st) refl }

addition_item : (n : Text) (xs : List Lexeme) (a : Tree) (d : ℕ) → Again loosest xs a → height a ≤ d → ItemAgain (addition (read d) d) Anything (xs ++ (keyword k.As ∷ (lexeme.name n ∷ []))) (n, a)
unfolding addition read_as read_name expect
addition_item n xs a d r lt = record { reads = λ s st. rw (append_assoc xs (keyword k.As ∷ (lexeme.name n ∷ [])) s, r.reads d (keyword k.As ∷ (lexeme.name n ∷ s)) lt (as_stops (lexeme.name n ∷ s))) refl }

setting_item : (n : Text) (xs : List Lexeme) (a : Tree) (d : ℕ) → Again loosest xs a → height a ≤ d → ItemAgain (setting (read d) d) Ends (lexeme.name n ∷ (sign signs.Assign ∷ xs)) (n, a)
unfolding setting read_name expect
setting_item n xs a d r lt = record { reads = λ s st. rw (r.reads d s lt st) refl }

count_item_again : (n : Text) (d : ℕ) → ItemAgain (summary (read d) d) Anything (keyword k.Count ∷ (with_parentheses [] ++ (keyword k.As ∷ (lexeme.name n ∷ [])))) (count_item n)
unfolding summary summary_of_word count_summary read_as read_name expect
count_item_again n d = record { reads = λ s st. refl }

sum_word : (op : Aggregate) (d : ℕ) (ts : List Lexeme) → summary (read d) d (keyword (aggregate_word op) ∷ ts) ≡ sum_summary (read d) d op ts
unfolding summary summary_of_word
sum_word aggregates.Sum d ts = refl
sum_word aggregates.Max d ts = refl
sum_word aggregates.Min d ts = refl

sum_again : (op : Aggregate) (n : Text) (xs : List Lexeme) (a : Tree) (d : ℕ) → Again loosest xs a → height a ≤ d → (s : List Lexeme)
    → sum_summary (read d) d op (sign signs.OpenParenthesis ∷ ((xs ++ (sign signs.CloseParenthesis ∷ [])) ++ (keyword k.As ∷ (lexeme.name n ∷ s)))) ≡ Some (sum_item op a n, s)
unfolding sum_summary read_as read_name expect
sum_again op n xs a d r lt s = rw (enclosed_again (read d loosest) Ends xs a (expression_item xs a d r lt) (keyword k.As ∷ (lexeme.name n ∷ s)) (close_stops (keyword k.As ∷ (lexeme.name n ∷ s)))) refl

sum_item_again : (op : Aggregate) (n : Text) (xs : List Lexeme) (a : Tree) (d : ℕ) → Again loosest xs a → height a ≤ d
    → ItemAgain (summary (read d) d) Anything (keyword (aggregate_word op) ∷ (with_parentheses xs ++ (keyword k.As ∷ (lexeme.name n ∷ [])))) (sum_item op a n)
sum_item_again op n xs a d r lt = record {
  reads = λ s st. rw (append_assoc (xs ++ (sign signs.CloseParenthesis ∷ [])) (keyword k.As ∷ (lexeme.name n ∷ [])) s, sum_word op d (sign signs.OpenParenthesis ∷ ((xs ++ (sign signs.CloseParenthesis ∷ [])) ++ (keyword k.As ∷ (lexeme.name n ∷ s))))) (sum_again op n xs a d r lt s);
}

-- ---- the lists

pub last_expression_reads : (xs : List Lexeme) (a : Tree) → Again loosest xs a → ListAgain xs (tree.more a tree.none)
last_expression_reads xs a r = record { reads = λ d lt. last_again (read d loosest) Ends xs a (expression_item xs a d r (omega arith)) }

pub next_expression_reads : (xs ys : List Lexeme) (a : Tree) (all : Trees) → Again loosest xs a → ListAgain ys all → ListAgain (xs ++ (comma ∷ ys)) (tree.more a all)
next_expression_reads xs ys a all r h = record { reads = λ d lt. next_again (read d loosest) Ends xs ys a (tree_items all) comma_stops (expression_item xs a d r (omega arith)) (h.reads d (omega arith)) }

pub last_part_reads : (n : Text) (xs : List Lexeme) (a : Tree) → Again loosest xs a → PartsAgain (lexeme.name n ∷ xs) (tree.more_named n a tree.none_named)
last_part_reads n xs a r = record { reads = λ d lt. last_again (part (read d) d) Ends (lexeme.name n ∷ xs) (n, a) (part_item n xs a d r (omega arith)) }

pub next_part_reads : (n : Text) (xs ys : List Lexeme) (a : Tree) (all : NamedTrees) → Again loosest xs a → PartsAgain ys all → PartsAgain (lexeme.name n ∷ (xs ++ (comma ∷ ys))) (tree.more_named n a all)
next_part_reads n xs ys a all r h = record { reads = λ d lt. next_again (part (read d) d) Ends (lexeme.name n ∷ xs) ys (n, a) (named_items all) comma_stops (part_item n xs a d r (omega arith)) (h.reads d (omega arith)) }

pub last_addition_reads : (n : Text) (xs : List Lexeme) (a : Tree) → Again loosest xs a → AdditionsAgain (xs ++ (keyword k.As ∷ (lexeme.name n ∷ []))) (tree.more_named n a tree.none_named)
last_addition_reads n xs a r = record { reads = λ d lt. last_again (addition (read d) d) Anything (xs ++ (keyword k.As ∷ (lexeme.name n ∷ []))) (n, a) (addition_item n xs a d r (omega arith)) }

pub next_addition_reads : (n : Text) (xs ys : List Lexeme) (a : Tree) (all : NamedTrees) → Again loosest xs a → AdditionsAgain ys all
    → AdditionsAgain (xs ++ (keyword k.As ∷ (lexeme.name n ∷ (comma ∷ ys)))) (tree.more_named n a all)
next_addition_reads n xs ys a all r h = record {
  reads = λ d lt.
      subst (λ (l : List Lexeme). SeparatedAgain (addition (read d) d) Anything l (named_items (tree.more_named n a all))) (append_assoc xs (keyword k.As ∷ (lexeme.name n ∷ [])) (comma ∷ ys))
      (next_again (addition (read d) d) Anything (xs ++ (keyword k.As ∷ (lexeme.name n ∷ []))) ys (n, a) (named_items all) (λ s. tt) (addition_item n xs a d r (omega arith)) (h.reads d (omega arith)));
}

pub last_setting_reads : (n : Text) (xs : List Lexeme) (a : Tree) → Again loosest xs a → SettingsAgain (lexeme.name n ∷ (sign signs.Assign ∷ xs)) (tree.more_named n a tree.none_named)
last_setting_reads n xs a r = record { reads = λ d lt. last_again (setting (read d) d) Ends (lexeme.name n ∷ (sign signs.Assign ∷ xs)) (n, a) (setting_item n xs a d r (omega arith)) }

pub next_setting_reads : (n : Text) (xs ys : List Lexeme) (a : Tree) (all : NamedTrees) → Again loosest xs a → SettingsAgain ys all → SettingsAgain (lexeme.name n ∷ (sign signs.Assign ∷ (xs ++ (comma ∷ ys)))) (tree.more_named n a all)
next_setting_reads n xs ys a all r h = record { reads = λ d lt. next_again (setting (read d) d) Ends (lexeme.name n ∷ (sign signs.Assign ∷ xs)) ys (n, a) (named_items all) comma_stops (setting_item n xs a d r (omega arith)) (h.reads d (omega arith)) }

pub last_count_reads : (n : Text) → SummariesAgain (keyword k.Count ∷ (with_parentheses [] ++ (keyword k.As ∷ (lexeme.name n ∷ [])))) (tree.counted n tree.no_summaries)
last_count_reads n = record { reads = λ d lt. last_again (summary (read d) d) Anything _ (count_item n) (count_item_again n d) }

pub next_count_reads : (n : Text) (ys : List Lexeme) (all : Summaries) → SummariesAgain ys all → SummariesAgain (keyword k.Count ∷ (with_parentheses [] ++ (keyword k.As ∷ (lexeme.name n ∷ (comma ∷ ys))))) (tree.counted n all)
next_count_reads n ys all h = record { reads = λ d lt. next_again (summary (read d) d) Anything (keyword k.Count ∷ (with_parentheses [] ++ (keyword k.As ∷ (lexeme.name n ∷ [])))) ys (count_item n) (summary_items all) (λ s. tt) (count_item_again n d) (h.reads d lt) }

pub last_sum_reads : (op : Aggregate) (n : Text) (xs : List Lexeme) (a : Tree) → Again loosest xs a
    → SummariesAgain (keyword (aggregate_word op) ∷ (with_parentheses xs ++ (keyword k.As ∷ (lexeme.name n ∷ [])))) (tree.summed op a n tree.no_summaries)
last_sum_reads op n xs a r = record { reads = λ d lt. last_again (summary (read d) d) Anything _ (sum_item op a n) (sum_item_again op n xs a d r (omega arith)) }

pub next_sum_reads : (op : Aggregate) (n : Text) (xs ys : List Lexeme) (a : Tree) (all : Summaries) → Again loosest xs a → SummariesAgain ys all
    → SummariesAgain (keyword (aggregate_word op) ∷ (with_parentheses xs ++ (keyword k.As ∷ (lexeme.name n ∷ (comma ∷ ys))))) (tree.summed op a n all)
next_sum_reads op n xs ys a all r h = record {
  reads = λ d lt.
      let regroup : ((xs ++ (sign signs.CloseParenthesis ∷ [])) ++ (keyword k.As ∷ (lexeme.name n ∷ []))) ++ (comma ∷ ys) ≡ (xs ++ (sign signs.CloseParenthesis ∷ [])) ++ (keyword k.As ∷ (lexeme.name n ∷ (comma ∷ ys)))
      = append_assoc (xs ++ (sign signs.CloseParenthesis ∷ [])) (keyword k.As ∷ (lexeme.name n ∷ [])) (comma ∷ ys) in
      subst (λ (l : List Lexeme). SeparatedAgain (summary (read d) d) Anything (keyword (aggregate_word op) ∷ (sign signs.OpenParenthesis ∷ l)) (summary_items (tree.summed op a n all))) regroup
      (next_again (summary (read d) d) Anything (keyword (aggregate_word op) ∷ (with_parentheses xs ++ (keyword k.As ∷ (lexeme.name n ∷ [])))) ys (sum_item op a n) (summary_items all) (λ s. tt) (sum_item_again op n xs a d r (omega arith)) (h.reads d (omega arith)));
}
