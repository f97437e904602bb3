-- Reading expressions from left to right, by recursive descent. The budget of height is the
-- descent's measure.
use Rattle.std.specs.Prelude.{ℕ, zero, suc, Bool, true, false, List, [], ◌∷◌, Some, None, nat_le, if◌then◌else◌}
use Rattle.td_tree.specs.declared.keyword.Keyword.{Keyword}
use Rattle.td_tree.specs.declared.keyword.Keyword.TheVariants as k
use Rattle.td_tree.specs.declared.operator.Aggregate.{Aggregate}
use Rattle.td_tree.specs.declared.operator.Aggregate.TheVariants as aggregates
use Rattle.td_tree.specs.declared.operator.Comparison.{Comparison}
use Rattle.td_tree.specs.declared.operator.Level.{Level}
use Rattle.td_tree.specs.declared.operator.Level.TheVariants as levels
use Rattle.td_tree.specs.declared.operator.Measure.{Measure}
use Rattle.td_tree.specs.declared.operator.Measure.TheVariants as measures
use Rattle.td_tree.specs.declared.operator.Prefix.{Prefix}
use Rattle.td_tree.specs.declared.operator.Prefix.TheVariants as prefixes
use Rattle.td_tree.specs.declared.operator.Style.{Style}
use Rattle.td_tree.specs.declared.operator.Style.TheVariants as styles
use Rattle.td_tree.specs.declared.token.Sign.{Sign}
use Rattle.td_tree.specs.declared.token.Sign.TheVariants as signs
use Rattle.td_tree.specs.model.Grammar.{tighter, loosest}
use Rattle.td_tree.specs.model.Heights.{height}
use Rattle.td_tree.specs.model.Lexemes.{Lexeme, keyword, sign}
use Rattle.td_tree.specs.model.Lexemes as lexeme
use Rattle.td_tree.specs.model.Numbers.{numeral_limit}
use Rattle.td_parse.specs.code.ReadingOperators.{linked_tree, link_at, comparison_at, prefix_at, extraction_at, postfix_at, call_at, heading_at}
use Rattle.td_parse.specs.code.ReadingSteps.{◌>>=◌, either, ReadOf, expect, read_name, read_as, read_up_to, in_parentheses_read, in_braces_read, list_by_commas, listed_to, attribute_list, read_renaming}
use Rattle.td_parse.specs.code.ReadingTypes.{relation_heading}
use Rattle.td_tree.specs.model.Trees as tree
use Rattle.td_tree.specs.model.Trees.{Text, Attributes, Renaming, Postfix, Tree, Trees, NamedTrees, Summaries}

-- a tree that is read, and the lexemes after it
abbrev pub Read : Type 0
Read = ReadOf Tree

-- ---- lists of parts

-- expressions
abbrev pub trees_from : List Tree → Trees
trees_from [] = tree.none
trees_from (a ∷ rest) = tree.more a (trees_from rest)

-- expressions with their names
abbrev pub named_from : List (Text × Tree) → NamedTrees
named_from [] = tree.none_named
named_from (a ∷ rest) = tree.more_named a.0 a.1 (named_from rest)

-- one of the attributes that SUMMARIZE adds
pub data SummaryItem : Type 0 where
  count_item : (name : Text) → SummaryItem
  sum_item : (op : Aggregate) (value : Tree) (name : Text) → SummaryItem

-- the items of SUMMARIZE with one more before them
abbrev pub with_item : SummaryItem → Summaries → Summaries
with_item (count_item n) rest = tree.counted n rest
with_item (sum_item op a n) rest = tree.summed op a n rest

-- what SUMMARIZE adds
abbrev pub summaries_from : List SummaryItem → Summaries
summaries_from [] = tree.no_summaries
summaries_from (item ∷ rest) = with_item item (summaries_from rest)

-- ---- what stands behind an operand

-- '(' (name AS name),+ ')', or '{' (name AS name),+ '}' in the newer spelling, after RENAME
unfoldable pub styled_renamings : List Lexeme → ReadOf (Style × List Renaming)
styled_renamings ts =
    either
    (in_parentheses_read (list_by_commas read_renaming) ts
    >>= λ x. Some ((styles.Older, x.0), x.1))
    (λ after. read_up_to (sign signs.CloseBrace) (list_by_commas read_renaming) after
    >>= λ x. Some ((styles.Newer, x.0), x.1))
    (expect (sign signs.OpenBrace) ts)

-- attrs AS name, of GROUP and WRAP
unfoldable pub named_attributes : List Lexeme → ReadOf (Attributes × Text)
named_attributes ts = attribute_list ts >>= λ a. read_as a.1 >>= λ n. Some ((a.0, n.0), n.1)

-- '(' attrs AS name ')', or attrs AS name in the newer spelling, after GROUP or WRAP
unfoldable pub styled_attributes : List Lexeme → ReadOf (Style × Attributes × Text)
styled_attributes ts =
    either (named_attributes ts >>= λ x. Some ((styles.Newer, x.0.0, x.0.1), x.1))
    (λ after. read_up_to (sign signs.CloseParenthesis) named_attributes after
    >>= λ x. Some ((styles.Older, x.0.0, x.0.1), x.1))
    (expect (sign signs.OpenParenthesis) ts)

-- an operator behind its operand, after its first word
unfoldable pub postfix_of_word : Keyword → List Lexeme → ReadOf Postfix
postfix_of_word k.Rename ts = styled_renamings ts >>= λ x. Some (tree.rename x.0.0 x.0.1, x.1)
postfix_of_word k.Group ts =
    styled_attributes ts >>= λ x. Some (tree.group x.0.0 x.0.1 x.0.2, x.1)
postfix_of_word k.Wrap ts =
    styled_attributes ts >>= λ x. Some (tree.wrap x.0.0 x.0.1 x.0.2, x.1)
postfix_of_word k.Ungroup ts = in_parentheses_read read_name ts >>= λ x. Some (tree.ungroup x.0, x.1)
postfix_of_word k.Unwrap ts = in_parentheses_read read_name ts >>= λ x. Some (tree.unwrap x.0, x.1)
postfix_of_word _ ts = None

-- an operator behind its operand
unfoldable pub read_postfix : List Lexeme → ReadOf Postfix
read_postfix (keyword w ∷ ts) = postfix_of_word w ts
read_postfix ts = attribute_list ts >>= λ x. Some (tree.project x.0, x.1)

-- ---- expressions

-- a number in range
unfoldable pub numeral : Bool → ℕ → List Lexeme → Read
numeral minus n ts =
    if nat_le n (numeral_limit minus) then Some (tree.literal (tree.number minus n), ts) else None

-- after '-'
unfoldable pub negative : List Lexeme → Read
negative (lexeme.number n ∷ ts) = numeral true n ts
negative _ = None

-- what inner reads is at most depth high
module _ (inner : Level → List Lexeme → Read) (depth : ℕ) where
  -- whether a tree that is made here is not too high
  abbrev pub fits : Tree → Bool
  fits t = nat_le (height t) (suc depth)

  -- e
  abbrev pub expression : List Lexeme → Read
  expression = inner loosest

  -- name e
  unfoldable pub part : List Lexeme → ReadOf (Text × Tree)
  part ts = read_name ts >>= λ n. expression n.1 >>= λ a. Some ((n.0, a.0), a.1)

  -- e AS name
  unfoldable pub addition : List Lexeme → ReadOf (Text × Tree)
  addition ts = expression ts >>= λ a. read_as a.1 >>= λ n. Some ((n.0, a.0), n.1)

  -- name ':=' e
  unfoldable pub setting : List Lexeme → ReadOf (Text × Tree)
  setting ts =
      read_name ts >>= λ n. expect (sign signs.Assign) n.1 >>= λ after. expression after
      >>= λ a. Some ((n.0, a.0), a.1)

  -- COUNT '(' ')' AS name, after COUNT
  unfoldable pub count_summary : List Lexeme → ReadOf SummaryItem
  count_summary ts =
      expect (sign signs.OpenParenthesis) ts >>= λ after. expect (sign signs.CloseParenthesis) after
      >>= λ last. read_as last >>= λ n. Some (count_item n.0, n.1)

  -- (SUM | MAX | MIN) '(' e ')' AS name, after its first word
  unfoldable pub sum_summary : Aggregate → List Lexeme → ReadOf SummaryItem
  sum_summary op ts =
      in_parentheses_read expression ts >>= λ a. read_as a.1 >>= λ n. Some (sum_item op a.0 n.0, n.1)

  -- what SUMMARIZE adds once, after its first word
  unfoldable pub summary_of_word : Keyword → List Lexeme → ReadOf SummaryItem
  summary_of_word k.Count ts = count_summary ts
  summary_of_word k.Sum ts = sum_summary aggregates.Sum ts
  summary_of_word k.Max ts = sum_summary aggregates.Max ts
  summary_of_word k.Min ts = sum_summary aggregates.Min ts
  summary_of_word _ ts = None

  -- what SUMMARIZE adds once
  unfoldable pub summary : List Lexeme → ReadOf SummaryItem
  summary (keyword w ∷ ts) = summary_of_word w ts
  summary _ = None

  -- ADD '(' item,+ ')'
  unfoldable pub summaries : List Lexeme → ReadOf Summaries
  summaries ts =
      expect (keyword k.Add) ts >>= λ after. in_parentheses_read (list_by_commas summary) after
      >>= λ x. Some (summaries_from x.0, x.1)

  -- after a name
  unfoldable pub name_expression : Text → List Lexeme → Read
  name_expression n ts =
      either (Some (tree.name n, ts))
      (λ after. listed_to (sign signs.CloseParenthesis) expression after
      >>= λ x. Some (tree.select n (trees_from x.0), x.1))
      (call_at ts)

  -- after a THE word
  unfoldable pub component_of : Text → List Lexeme → Read
  component_of rest ts = in_parentheses_read expression ts >>= λ a. Some (tree.component rest a.0, a.1)

  -- after '('
  unfoldable pub parenthesis_expression : List Lexeme → Read
  parenthesis_expression ts =
      read_up_to (sign signs.CloseParenthesis) expression ts >>= λ a. Some (tree.parentheses a.0, a.1)

  -- after COUNT or IS_EMPTY
  unfoldable pub measure_expression : Measure → List Lexeme → Read
  measure_expression op ts = in_parentheses_read expression ts >>= λ a. Some (tree.measure op a.0, a.1)

  -- after SUM, MAX or MIN
  unfoldable pub aggregate_expression : Aggregate → List Lexeme → Read
  aggregate_expression op ts =
      expect (sign signs.OpenParenthesis) ts >>= λ after. read_up_to (sign signs.Comma) expression after
      >>= λ a. read_up_to (sign signs.CloseParenthesis) expression a.1
      >>= λ b. Some (tree.aggregate op a.0 b.0, b.1)

  -- heading '{' e,* '}'
  unfoldable pub headed_relation : List Lexeme → Read
  headed_relation ts =
      relation_heading depth ts >>= λ h. expect (sign signs.OpenBrace) h.1
      >>= λ after. listed_to (sign signs.CloseBrace) expression after
      >>= λ x. Some (tree.headed_relation h.0 (trees_from x.0), x.1)

  -- '{' e,+ '}'
  unfoldable pub elements : List Lexeme → Read
  elements ts =
      expect (sign signs.OpenBrace) ts
      >>= λ after. read_up_to (sign signs.CloseBrace) (list_by_commas expression) after
      >>= λ x. Some (tree.relation (trees_from x.0), x.1)

  -- after RELATION
  unfoldable pub relation : List Lexeme → Read
  relation ts = if heading_at ts then headed_relation ts else elements ts

  -- after TUPLE
  unfoldable pub tuple : List Lexeme → Read
  tuple ts = expect (sign signs.OpenBrace) ts
      >>= λ after. listed_to (sign signs.CloseBrace) part after
      >>= λ x. Some (tree.tuple (named_from x.0), x.1)

  -- after EXTEND e ADD
  unfoldable pub extension_adding : Tree → List Lexeme → Read
  extension_adding a ts =
      in_parentheses_read (list_by_commas addition) ts
      >>= λ x. Some (tree.extend a (named_from x.0), x.1)

  -- after EXTEND e ':'
  unfoldable pub extension_setting : Tree → List Lexeme → Read
  extension_setting a ts =
      in_braces_read (list_by_commas setting) ts
      >>= λ x. Some (tree.extend_setting a (named_from x.0), x.1)

  -- after EXTEND
  unfoldable pub extension : List Lexeme → Read
  extension ts =
      expression ts
      >>= λ a. either (expect (keyword k.Add) a.1 >>= λ after. extension_adding a.0 after)
      (λ after. extension_setting a.0 after) (expect (sign signs.Colon) a.1)

  -- after SUMMARIZE e PER
  unfoldable pub summary_per : Tree → List Lexeme → Read
  summary_per a ts =
      in_parentheses_read expression ts >>= λ b. summaries b.1
      >>= λ x. Some (tree.summarize_per a b.0 x.0, x.1)

  -- after SUMMARIZE e BY
  unfoldable pub summary_by : Tree → List Lexeme → Read
  summary_by a ts =
      attribute_list ts >>= λ by. summaries by.1 >>= λ x. Some (tree.summarize_by a by.0 x.0, x.1)

  -- after SUMMARIZE
  unfoldable pub summarize_expression : List Lexeme → Read
  summarize_expression ts =
      expression ts
      >>= λ a. either (expect (keyword k.By) a.1 >>= λ after. summary_by a.0 after)
      (λ after. summary_per a.0 after) (expect (keyword k.Per) a.1)

  -- after IF
  unfoldable pub choice : List Lexeme → Read
  choice ts = do
    a ← read_up_to (keyword k.Then) expression ts
    b ← read_up_to (keyword k.Else) expression a.1
    c ← read_up_to (keyword k.End) expression b.1
    after ← expect (keyword k.If) c.1
    Some (tree.choice a.0 b.0 c.0, after)

  -- a primary expression after its first word
  unfoldable pub primary_of_word : Keyword → List Lexeme → Read
  primary_of_word k.True ts = Some (tree.literal (tree.truth true), ts)
  primary_of_word k.False ts = Some (tree.literal (tree.truth false), ts)
  primary_of_word k.TableDee ts = Some (tree.literal tree.table_dee, ts)
  primary_of_word k.TableDum ts = Some (tree.literal tree.table_dum, ts)
  primary_of_word k.Count ts = measure_expression measures.Count ts
  primary_of_word k.IsEmpty ts = measure_expression measures.IsEmpty ts
  primary_of_word k.Sum ts = aggregate_expression aggregates.Sum ts
  primary_of_word k.Max ts = aggregate_expression aggregates.Max ts
  primary_of_word k.Min ts = aggregate_expression aggregates.Min ts
  primary_of_word k.Relation ts = relation ts
  primary_of_word k.Tuple ts = tuple ts
  primary_of_word k.Extend ts = extension ts
  primary_of_word k.Summarize ts = summarize_expression ts
  primary_of_word k.If ts = choice ts
  primary_of_word _ ts = None

  -- a primary expression after its first sign
  unfoldable pub primary_of_sign : Sign → List Lexeme → Read
  primary_of_sign signs.OpenParenthesis ts = parenthesis_expression ts
  primary_of_sign signs.Minus ts = negative ts
  primary_of_sign _ ts = None

  -- a primary expression
  unfoldable pub primary : List Lexeme → Read
  primary (keyword w ∷ ts) = primary_of_word w ts
  primary (sign s ∷ ts) = primary_of_sign s ts
  primary (lexeme.name n ∷ ts) = name_expression n ts
  primary (lexeme.component rest ∷ ts) = component_of rest ts
  primary (lexeme.number n ∷ ts) = numeral false n ts
  primary (lexeme.text said ∷ ts) = Some (tree.literal (tree.text said), ts)
  primary _ = None

  -- goes on with operators behind the operand, at most so many
  unfoldable pub postfixes : ℕ → Tree → List Lexeme → Read
  postfixes zero left ts = None
  postfixes (suc n) left ts =
      if postfix_at ts
      then (read_postfix ts >>= λ x.
      if fits (tree.postfix left x.0) then postfixes n (tree.postfix left x.0) x.1 else None)
      else Some (left, ts)

  -- e9: a primary expression with the operators behind it
  unfoldable pub postfix_expression : List Lexeme → Read
  postfix_expression ts = primary ts >>= λ x. postfixes (suc depth) x.0 x.1

  -- after name FROM
  unfoldable pub extract_expression : Text → List Lexeme → Read
  extract_expression n ts = inner levels.Prefixed ts >>= λ x. Some (tree.extract n x.0, x.1)

  -- after an operator before its operand, which stands at this level
  unfoldable pub prefix_expression : Level → Prefix → List Lexeme → Read
  prefix_expression level op ts = inner level ts >>= λ x. Some (tree.prefix op x.0, x.1)

  -- e8: what stands before an operand, or e9
  unfoldable pub unary_expression : List Lexeme → Read
  unary_expression ts =
      either (either (postfix_expression ts) (λ p. extract_expression p.0 p.1) (extraction_at ts))
      (λ p. prefix_expression levels.Prefixed p.0 p.1) (prefix_at ts)

  -- goes on with the operators of a level, at most so many
  unfoldable pub operations : Level → ℕ → Tree → List Lexeme → Read
  operations level zero left ts = None
  operations level (suc n) left ts =
      either (Some (left, ts))
      (λ p. inner (tighter level) p.1 >>= λ x.
      if fits (linked_tree left p.0 x.0) then operations level n (linked_tree left p.0 x.0) x.1 else None)
      (link_at level ts)

  -- operands of the next level with the operators of this one
  unfoldable pub chain : Level → (List Lexeme → Read) → List Lexeme → Read
  chain level first ts = first ts >>= λ x. operations level (suc depth) x.0 x.1

  -- e7, by '*' and '/'
  unfoldable pub multiplicative : List Lexeme → Read
  multiplicative = chain levels.Multiplicative unary_expression

  -- e6, by '+', '-' and '||'
  unfoldable pub additive : List Lexeme → Read
  additive = chain levels.Additive multiplicative

  -- e5, by UNION and its kin
  unfoldable pub relational : List Lexeme → Read
  relational = chain levels.Relational additive

  -- a comparison with what is on its left
  unfoldable pub compared_to : Tree → Comparison → List Lexeme → Read
  compared_to left op ts =
      inner levels.Relational ts >>= λ x.
      if fits (tree.compare left op x.0) then Some (tree.compare left op x.0, x.1) else None

  -- e4: e5, or a comparison of two
  unfoldable pub comparison_expression : List Lexeme → Read
  comparison_expression ts =
      relational ts >>= λ x. either (Some x) (λ p. compared_to x.0 p.0 p.1) (comparison_at x.1)

  -- e3: NOT e3, or e4
  unfoldable pub negation_expression : List Lexeme → Read
  negation_expression ts =
      either (comparison_expression ts) (λ after. prefix_expression levels.Negation prefixes.Not after)
      (expect (keyword k.Not) ts)

  -- e2, by AND
  unfoldable pub conjunction : List Lexeme → Read
  conjunction = chain levels.Conjunction negation_expression

  -- e1, by OR
  unfoldable pub disjunction : List Lexeme → Read
  disjunction = chain levels.Disjunction conjunction

  -- w, by WHERE
  unfoldable pub restriction : List Lexeme → Read
  restriction = chain levels.Restriction disjunction

  -- after WITH
  unfoldable pub binding_expression : List Lexeme → Read
  binding_expression ts = do
    items ← in_parentheses_read (list_by_commas setting) ts
    after ← expect (sign signs.Colon) items.1
    a ← expression after
    Some (tree.binding (named_from items.0) a.0, a.1)

  -- e: WITH and what it names, or w
  unfoldable pub binding : List Lexeme → Read
  binding ts = either (restriction ts) (λ after. binding_expression after) (expect (keyword k.With) ts)

  -- an expression of this level
  unfoldable pub by_level : Level → List Lexeme → Read
  by_level levels.Binding = binding
  by_level levels.Restriction = restriction
  by_level levels.Disjunction = disjunction
  by_level levels.Conjunction = conjunction
  by_level levels.Negation = negation_expression
  by_level levels.Comparison = comparison_expression
  by_level levels.Relational = relational
  by_level levels.Additive = additive
  by_level levels.Multiplicative = multiplicative
  by_level levels.Prefixed = unary_expression
  by_level levels.Postfixed = postfix_expression
  by_level levels.Primary = primary

-- an expression of this level that is at most so high
unfoldable pub read : ℕ → Level → List Lexeme → Read
read zero level ts = None
read (suc depth) level ts = by_level (read depth) depth level ts
