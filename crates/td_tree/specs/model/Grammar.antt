-- The grammar of types and expressions (after Tutorial D; the levels of precedence are this
-- project's own): which lexemes spell which tree, a constructor for each production.
use Rattle.std.specs.Prelude.{ℕ, ◌≤◌, true, false, List, [], ◌∷◌, ◌++◌, ⊤}
use Rattle.td_tree.specs.declared.keyword.Keyword.{Keyword}
use Rattle.td_tree.specs.declared.keyword.Keyword.TheVariants as k
use Rattle.td_tree.specs.declared.operator.Aggregate.{Aggregate}
use Rattle.td_tree.specs.declared.operator.Aggregate.TheVariants as aggregates
use Rattle.td_tree.specs.declared.operator.Comparison.{Comparison}
use Rattle.td_tree.specs.declared.operator.Comparison.TheVariants as comparisons
use Rattle.td_tree.specs.declared.operator.Level.{Level}
use Rattle.td_tree.specs.declared.operator.Level.TheVariants as levels
use Rattle.td_tree.specs.declared.operator.Measure.{Measure}
use Rattle.td_tree.specs.declared.operator.Measure.TheVariants as measures
use Rattle.td_tree.specs.declared.operator.Operator.{Operator}
use Rattle.td_tree.specs.declared.operator.Operator.TheVariants as operators
use Rattle.td_tree.specs.declared.operator.Prefix.TheVariants as prefixes
use Rattle.td_tree.specs.declared.operator.Style.TheVariants as styles
use Rattle.td_tree.specs.declared.token.Sign.TheVariants as signs
use Rattle.td_tree.specs.model.Heights.{height}
use Rattle.td_tree.specs.model.Lexemes.{Lexeme, keyword, sign}
use Rattle.td_tree.specs.model.Lexemes as lexeme
use Rattle.td_tree.specs.model.Lists.{Listed, Separated, with_braces, with_parentheses}
use Rattle.td_tree.specs.model.Numbers.{numeral_limit}
use Rattle.td_tree.specs.model.Trees as tree
use Rattle.td_tree.specs.model.Trees.{Text, TypeTree, AttributeTrees, Literal, Attributes, Renaming, Postfix, Tree, Trees, NamedTrees, Summaries}

-- ---- types

mutual
  pub data TypeSpelling : List Lexeme → TypeTree → Type 0 where
    -- type := INTEGER | CHAR | BOOLEAN | name
    integer_type : TypeSpelling (keyword k.Integer ∷ []) tree.integer
    char_type : TypeSpelling (keyword k.Char ∷ []) tree.char
    boolean_type : TypeSpelling (keyword k.Boolean ∷ []) tree.boolean
    user_type : {n : Text} → TypeSpelling (lexeme.name n ∷ []) (tree.user n)
    -- RELATION heading
    relation_type : {xs : List Lexeme} {h : AttributeTrees} → HeadingSpelling xs h
        → TypeSpelling (keyword k.Relation ∷ xs) (tree.relation_type h)
    -- TUPLE heading
    tuple_type : {xs : List Lexeme} {h : AttributeTrees} → HeadingSpelling xs h
        → TypeSpelling (keyword k.Tuple ∷ xs) (tree.tuple_type h)

  -- '{' attr,* '}'
  pub data HeadingSpelling : List Lexeme → AttributeTrees → Type 0 where
    empty_heading : HeadingSpelling (with_braces []) tree.no_attributes
    heading : {xs : List Lexeme} {h : AttributeTrees} → AttributesSpelling xs h
        → HeadingSpelling (with_braces xs) h

  -- attr,+ where attr := name type
  pub data AttributesSpelling : List Lexeme → AttributeTrees → Type 0 where
    last_attribute : {n : Text} {xs : List Lexeme} {t : TypeTree} → TypeSpelling xs t
        → AttributesSpelling (lexeme.name n ∷ xs) (tree.attribute n t tree.no_attributes)
    next_attribute : {n : Text} {xs ys : List Lexeme} {t : TypeTree} {h : AttributeTrees}
        → TypeSpelling xs t → AttributesSpelling ys h
        → AttributesSpelling (lexeme.name n ∷ (xs ++ (sign signs.Comma ∷ ys)))
        (tree.attribute n t h)

-- ---- what holds no expression

pub data NameSpelling : List Lexeme → Text → Type 0 where
  name_item : {n : Text} → NameSpelling (lexeme.name n ∷ []) n

-- names := '{' name,* '}'
pub data NamesSpelling : List Lexeme → List Text → Type 0 where
  names : {xs : List Lexeme} {ns : List Text} → Listed NameSpelling xs ns
      → NamesSpelling (with_braces xs) ns

-- attrs := names | '{' ALL BUT name,* '}'
pub data AttributeListSpelling : List Lexeme → Attributes → Type 0 where
  only_names : {xs : List Lexeme} {ns : List Text} → NamesSpelling xs ns
      → AttributeListSpelling xs (tree.only ns)
  all_but_names : {xs : List Lexeme} {ns : List Text} → Listed NameSpelling xs ns
      → AttributeListSpelling (with_braces (keyword k.All ∷ (keyword k.But ∷ xs))) (tree.all_but ns)

-- name AS name
pub data RenamingSpelling : List Lexeme → Renaming → Type 0 where
  renaming : {old new : Text}
      → RenamingSpelling (lexeme.name old ∷ (keyword k.As ∷ (lexeme.name new ∷ [])))
      (record { old = old; new = new })

-- what stands behind an operand
pub data PostfixSpelling : List Lexeme → Postfix → Type 0 where
  -- e9 attrs
  projection : {xs : List Lexeme} {a : Attributes} → AttributeListSpelling xs a
      → PostfixSpelling xs (tree.project a)
  -- e9 RENAME '(' (name AS name),+ ')'
  renamings : {xs : List Lexeme} {rs : List Renaming} → Separated RenamingSpelling xs rs
      → PostfixSpelling (keyword k.Rename ∷ with_parentheses xs) (tree.rename styles.Older rs)
  -- e9 RENAME '{' (name AS name),+ '}'
  renamings_in_braces : {xs : List Lexeme} {rs : List Renaming} → Separated RenamingSpelling xs rs
      → PostfixSpelling (keyword k.Rename ∷ with_braces xs) (tree.rename styles.Newer rs)
  -- e9 GROUP '(' attrs AS name ')' and WRAP
  grouping : {xs : List Lexeme} {a : Attributes} {n : Text} → AttributeListSpelling xs a
      → PostfixSpelling
      (keyword k.Group ∷ with_parentheses (xs ++ (keyword k.As ∷ (lexeme.name n ∷ []))))
      (tree.group styles.Older a n)
  wrapping : {xs : List Lexeme} {a : Attributes} {n : Text} → AttributeListSpelling xs a
      → PostfixSpelling
      (keyword k.Wrap ∷ with_parentheses (xs ++ (keyword k.As ∷ (lexeme.name n ∷ []))))
      (tree.wrap styles.Older a n)
  -- e9 GROUP attrs AS name and WRAP
  open_grouping : {xs : List Lexeme} {a : Attributes} {n : Text} → AttributeListSpelling xs a
      → PostfixSpelling (keyword k.Group ∷ (xs ++ (keyword k.As ∷ (lexeme.name n ∷ []))))
      (tree.group styles.Newer a n)
  open_wrapping : {xs : List Lexeme} {a : Attributes} {n : Text} → AttributeListSpelling xs a
      → PostfixSpelling (keyword k.Wrap ∷ (xs ++ (keyword k.As ∷ (lexeme.name n ∷ []))))
      (tree.wrap styles.Newer a n)
  -- e9 UNGROUP '(' name ')' and UNWRAP
  ungrouping : {n : Text}
      → PostfixSpelling (keyword k.Ungroup ∷ with_parentheses (lexeme.name n ∷ [])) (tree.ungroup n)
  unwrapping : {n : Text}
      → PostfixSpelling (keyword k.Unwrap ∷ with_parentheses (lexeme.name n ∷ [])) (tree.unwrap n)

pub data LiteralSpelling : List Lexeme → Literal → Type 0 where
  -- number | '-' number, in range
  number_literal : {n : ℕ} → n ≤ numeral_limit false
      → LiteralSpelling (lexeme.number n ∷ []) (tree.number false n)
  minus_literal : {n : ℕ} → n ≤ numeral_limit true
      → LiteralSpelling (sign signs.Minus ∷ (lexeme.number n ∷ [])) (tree.number true n)
  -- text | TRUE | FALSE | TABLE_DEE | TABLE_DUM
  text_literal : {said : Text} → LiteralSpelling (lexeme.text said ∷ []) (tree.text said)
  true_literal : LiteralSpelling (keyword k.True ∷ []) (tree.truth true)
  false_literal : LiteralSpelling (keyword k.False ∷ []) (tree.truth false)
  dee_literal : LiteralSpelling (keyword k.TableDee ∷ []) tree.table_dee
  dum_literal : LiteralSpelling (keyword k.TableDum ∷ []) tree.table_dum

-- ---- operators

-- the level of the operands beside an operator
abbrev pub tighter : Level → Level
tighter levels.Binding = levels.Restriction
tighter levels.Restriction = levels.Disjunction
tighter levels.Disjunction = levels.Conjunction
tighter levels.Conjunction = levels.Negation
tighter levels.Negation = levels.Comparison
tighter levels.Comparison = levels.Relational
tighter levels.Relational = levels.Additive
tighter levels.Additive = levels.Multiplicative
tighter levels.Multiplicative = levels.Prefixed
tighter levels.Prefixed = levels.Postfixed
tighter levels.Postfixed = levels.Primary
tighter levels.Primary = levels.Primary

-- the level of a whole expression: its operators bind the loosest
abbrev pub loosest : Level
loosest = levels.Binding

-- the level at which an operator stands
abbrev pub level_of : Operator → Level
level_of operators.Or = levels.Disjunction
level_of operators.And = levels.Conjunction
level_of operators.Union = levels.Relational
level_of operators.Intersect = levels.Relational
level_of operators.Minus = levels.Relational
level_of operators.Join = levels.Relational
level_of operators.Times = levels.Relational
level_of operators.Compose = levels.Relational
level_of operators.Matching = levels.Relational
level_of operators.NotMatching = levels.Relational
level_of operators.DisjointUnion = levels.Relational
level_of operators.IncludedMinus = levels.Relational
level_of operators.Add = levels.Additive
level_of operators.Subtract = levels.Additive
level_of operators.Concatenate = levels.Additive
level_of operators.Multiply = levels.Multiplicative
level_of operators.Divide = levels.Multiplicative

-- how an operator is written
abbrev pub operator_words : Operator → List Lexeme
operator_words operators.Or = keyword k.Or ∷ []
operator_words operators.And = keyword k.And ∷ []
operator_words operators.Union = keyword k.Union ∷ []
operator_words operators.Intersect = keyword k.Intersect ∷ []
operator_words operators.Minus = keyword k.Minus ∷ []
operator_words operators.Join = keyword k.Join ∷ []
operator_words operators.Times = keyword k.Times ∷ []
operator_words operators.Compose = keyword k.Compose ∷ []
operator_words operators.Matching = keyword k.Matching ∷ []
operator_words operators.NotMatching = keyword k.Not ∷ (keyword k.Matching ∷ [])
operator_words operators.DisjointUnion = keyword k.DUnion ∷ []
operator_words operators.IncludedMinus = keyword k.IMinus ∷ []
operator_words operators.Add = sign signs.Plus ∷ []
operator_words operators.Subtract = sign signs.Minus ∷ []
operator_words operators.Concatenate = sign signs.Concatenate ∷ []
operator_words operators.Multiply = sign signs.Times ∷ []
operator_words operators.Divide = sign signs.Divide ∷ []

abbrev pub comparison_word : Comparison → Lexeme
comparison_word comparisons.Equal = sign signs.Equal
comparison_word comparisons.NotEqual = sign signs.NotEqual
comparison_word comparisons.Less = sign signs.Less
comparison_word comparisons.LessOrEqual = sign signs.LessOrEqual
comparison_word comparisons.Greater = sign signs.Greater
comparison_word comparisons.GreaterOrEqual = sign signs.GreaterOrEqual
comparison_word comparisons.In = keyword k.In

abbrev pub measure_word : Measure → Keyword
measure_word measures.Count = k.Count
measure_word measures.IsEmpty = k.IsEmpty

abbrev pub aggregate_word : Aggregate → Keyword
aggregate_word aggregates.Sum = k.Sum
aggregate_word aggregates.Max = k.Max
aggregate_word aggregates.Min = k.Min

-- the first of them is no number
abbrev pub BeginsOtherwise : List Lexeme → Type 0
BeginsOtherwise (lexeme.number n ∷ xs) = ⊥
BeginsOtherwise _ = ⊤

-- ---- expressions

mutual
  pub data Spelling : Level → List Lexeme → Tree → Type 0 where
    -- a level includes the next: e := w, w := e1, e1 := e2 and so on
    looser : {level : Level} {xs : List Lexeme} {a : Tree} → Spelling (tighter level) xs a
        → Spelling level xs a
    -- e := WITH '(' set,+ ')' ':' e
    binding : {xs ys : List Lexeme} {items : NamedTrees} {a : Tree} → SettingsSpelling xs items
        → Spelling levels.Binding ys a
        → Spelling levels.Binding
        (keyword k.With ∷ (with_parentheses xs ++ (sign signs.Colon ∷ ys)))
        (tree.binding items a)
    -- w := w WHERE e1
    restriction : {xs ys : List Lexeme} {a p : Tree} → Spelling levels.Restriction xs a
        → Spelling levels.Disjunction ys p
        → Spelling levels.Restriction (xs ++ (keyword k.Where ∷ ys)) (tree.restriction a p)
    -- e1 := e1 OR e2, e2 := e2 AND e3, e5 := e5 rop e6,
    -- e6 := e6 ('+' | '-' | '||') e7, e7 := e7 ('*' | '/') e8
    between : {op : Operator} {xs ys : List Lexeme} {a b : Tree} → Spelling (level_of op) xs a
        → Spelling (tighter (level_of op)) ys b
        → Spelling (level_of op) (xs ++ (operator_words op ++ ys)) (tree.binary a op b)
    -- e3 := NOT e3
    negation : {xs : List Lexeme} {a : Tree} → Spelling levels.Negation xs a
        → Spelling levels.Negation (keyword k.Not ∷ xs) (tree.prefix prefixes.Not a)
    -- e4 := e5 ('=' | '<>' | '<' | '<=' | '>' | '>=' | IN) e5
    comparison : {op : Comparison} {xs ys : List Lexeme} {a b : Tree}
        → Spelling levels.Relational xs a → Spelling levels.Relational ys b
        → Spelling levels.Comparison (xs ++ (comparison_word op ∷ ys)) (tree.compare a op b)
    -- e8 := '-' e8, where e8's first token is no number
    minus : {xs : List Lexeme} {a : Tree} → BeginsOtherwise xs → Spelling levels.Prefixed xs a
        → Spelling levels.Prefixed (sign signs.Minus ∷ xs) (tree.prefix prefixes.Negate a)
    -- e8 := TCLOSE e8
    closure : {xs : List Lexeme} {a : Tree} → Spelling levels.Prefixed xs a
        → Spelling levels.Prefixed (keyword k.Tclose ∷ xs)
        (tree.prefix prefixes.TransitiveClosure a)
    -- e8 := TUPLE FROM e8
    tuple_from : {xs : List Lexeme} {a : Tree} → Spelling levels.Prefixed xs a
        → Spelling levels.Prefixed (keyword k.Tuple ∷ (keyword k.From ∷ xs))
        (tree.prefix prefixes.TupleFrom a)
    -- e8 := name FROM e8
    extraction : {n : Text} {xs : List Lexeme} {a : Tree} → Spelling levels.Prefixed xs a
        → Spelling levels.Prefixed (lexeme.name n ∷ (keyword k.From ∷ xs)) (tree.extract n a)
    -- e9 := e9 with what stands behind it
    behind : {xs ys : List Lexeme} {a : Tree} {p : Postfix} → Spelling levels.Postfixed xs a
        → PostfixSpelling ys p
        → Spelling levels.Postfixed (xs ++ ys) (tree.postfix a p)
    -- e10 := number | '-' number | text | TRUE | FALSE | TABLE_DEE | TABLE_DUM
    literal : {xs : List Lexeme} {l : Literal} → LiteralSpelling xs l
        → Spelling levels.Primary xs (tree.literal l)
    -- e10 := name
    reference : {n : Text} → Spelling levels.Primary (lexeme.name n ∷ []) (tree.name n)
    -- e10 := name '(' e,* ')'
    selector : {n : Text} {xs : List Lexeme} {all : Trees} → ListSpelling xs all
        → Spelling levels.Primary (lexeme.name n ∷ with_parentheses xs) (tree.select n all)
    -- e10 := THEword '(' e ')'
    component : {rest : Text} {xs : List Lexeme} {a : Tree} → Spelling loosest xs a
        → Spelling levels.Primary (lexeme.component rest ∷ with_parentheses xs) (tree.component rest a)
    -- e10 := '(' e ')'
    parentheses : {xs : List Lexeme} {a : Tree} → Spelling loosest xs a
        → Spelling levels.Primary (with_parentheses xs) (tree.parentheses a)
    -- e10 := (COUNT | IS_EMPTY) '(' e ')'
    measure : {op : Measure} {xs : List Lexeme} {a : Tree} → Spelling loosest xs a
        → Spelling levels.Primary (keyword (measure_word op) ∷ with_parentheses xs) (tree.measure op a)
    -- e10 := (SUM | MAX | MIN) '(' e ',' e ')'
    aggregate : {op : Aggregate} {xs ys : List Lexeme} {a b : Tree} → Spelling loosest xs a
        → Spelling loosest ys b
        → Spelling levels.Primary
        (keyword (aggregate_word op) ∷ with_parentheses (xs ++ (sign signs.Comma ∷ ys)))
        (tree.aggregate op a b)
    -- e10 := RELATION heading '{' e,* '}'
    headed_relation : {hs xs : List Lexeme} {h : AttributeTrees} {all : Trees}
        → HeadingSpelling hs h → ListSpelling xs all
        → Spelling levels.Primary (keyword k.Relation ∷ (hs ++ with_braces xs))
        (tree.headed_relation h all)
    -- e10 := RELATION '{' e,+ '}'
    relation : {xs : List Lexeme} {all : Trees} → ExpressionsSpelling xs all
        → Spelling levels.Primary (keyword k.Relation ∷ with_braces xs) (tree.relation all)
    -- e10 := TUPLE '{' (name e),* '}'
    empty_tuple : Spelling levels.Primary (keyword k.Tuple ∷ with_braces []) (tree.tuple tree.none_named)
    tuple : {xs : List Lexeme} {parts : NamedTrees} → PartsSpelling xs parts
        → Spelling levels.Primary (keyword k.Tuple ∷ with_braces xs) (tree.tuple parts)
    -- e10 := EXTEND e ADD '(' (e AS name),+ ')'
    extension : {xs ys : List Lexeme} {a : Tree} {parts : NamedTrees} → Spelling loosest xs a
        → AdditionsSpelling ys parts
        → Spelling levels.Primary (keyword k.Extend ∷ (xs ++ (keyword k.Add ∷ with_parentheses ys)))
        (tree.extend a parts)
    -- e10 := EXTEND e ':' '{' set,+ '}'
    setting_extension : {xs ys : List Lexeme} {a : Tree} {parts : NamedTrees}
        → Spelling loosest xs a → SettingsSpelling ys parts
        → Spelling levels.Primary (keyword k.Extend ∷ (xs ++ (sign signs.Colon ∷ with_braces ys)))
        (tree.extend_setting a parts)
    -- e10 := SUMMARIZE e PER '(' e ')' ADD '(' item,+ ')'
    summary_per : {xs ys zs : List Lexeme} {a b : Tree} {items : Summaries} → Spelling loosest xs a
        → Spelling loosest ys b → SummariesSpelling zs items
        → Spelling levels.Primary
        (keyword k.Summarize
        ∷ (xs ++ (keyword k.Per
        ∷ (with_parentheses ys
        ++ (keyword k.Add ∷ with_parentheses zs)))))
        (tree.summarize_per a b items)
    -- e10 := SUMMARIZE e BY attrs ADD '(' item,+ ')'
    summary_by : {xs ys zs : List Lexeme} {a : Tree} {by : Attributes} {items : Summaries}
        → Spelling loosest xs a → AttributeListSpelling ys by → SummariesSpelling zs items
        → Spelling levels.Primary
        (keyword k.Summarize
        ∷ (xs ++ (keyword k.By
        ∷ (ys ++ (keyword k.Add ∷ with_parentheses zs)))))
        (tree.summarize_by a by items)
    -- e10 := IF e THEN e ELSE e END IF
    choice : {xs ys zs : List Lexeme} {a b c : Tree} → Spelling loosest xs a → Spelling loosest ys b
        → Spelling loosest zs c
        → Spelling levels.Primary
        (keyword k.If
        ∷ (xs ++ (keyword k.Then
        ∷ (ys ++ (keyword k.Else
        ∷ (zs ++ (keyword k.End ∷ (keyword k.If ∷ []))))))))
        (tree.choice a b c)

  -- e,*
  pub data ListSpelling : List Lexeme → Trees → Type 0 where
    no_expressions : ListSpelling [] tree.none
    some_expressions : {xs : List Lexeme} {all : Trees} → ExpressionsSpelling xs all
        → ListSpelling xs all

  -- e,+
  pub data ExpressionsSpelling : List Lexeme → Trees → Type 0 where
    last_expression : {xs : List Lexeme} {a : Tree} → Spelling loosest xs a
        → ExpressionsSpelling xs (tree.more a tree.none)
    next_expression : {xs ys : List Lexeme} {a : Tree} {all : Trees} → Spelling loosest xs a
        → ExpressionsSpelling ys all
        → ExpressionsSpelling (xs ++ (sign signs.Comma ∷ ys)) (tree.more a all)

  -- (name e),+
  pub data PartsSpelling : List Lexeme → NamedTrees → Type 0 where
    last_part : {n : Text} {xs : List Lexeme} {a : Tree} → Spelling loosest xs a
        → PartsSpelling (lexeme.name n ∷ xs) (tree.more_named n a tree.none_named)
    next_part : {n : Text} {xs ys : List Lexeme} {a : Tree} {parts : NamedTrees}
        → Spelling loosest xs a → PartsSpelling ys parts
        → PartsSpelling (lexeme.name n ∷ (xs ++ (sign signs.Comma ∷ ys)))
        (tree.more_named n a parts)

  -- (e AS name),+
  pub data AdditionsSpelling : List Lexeme → NamedTrees → Type 0 where
    last_addition : {n : Text} {xs : List Lexeme} {a : Tree} → Spelling loosest xs a
        → AdditionsSpelling (xs ++ (keyword k.As ∷ (lexeme.name n ∷ [])))
        (tree.more_named n a tree.none_named)
    next_addition : {n : Text} {xs ys : List Lexeme} {a : Tree} {parts : NamedTrees}
        → Spelling loosest xs a → AdditionsSpelling ys parts
        → AdditionsSpelling (xs ++ (keyword k.As ∷ (lexeme.name n ∷ (sign signs.Comma ∷ ys))))
        (tree.more_named n a parts)

  -- set,+ where set := name ':=' e
  pub data SettingsSpelling : List Lexeme → NamedTrees → Type 0 where
    last_setting : {n : Text} {xs : List Lexeme} {a : Tree} → Spelling loosest xs a
        → SettingsSpelling (lexeme.name n ∷ (sign signs.Assign ∷ xs))
        (tree.more_named n a tree.none_named)
    next_setting : {n : Text} {xs ys : List Lexeme} {a : Tree} {parts : NamedTrees}
        → Spelling loosest xs a → SettingsSpelling ys parts
        → SettingsSpelling (lexeme.name n ∷ (sign signs.Assign ∷ (xs ++ (sign signs.Comma ∷ ys))))
        (tree.more_named n a parts)

  -- item,+ where item := COUNT '(' ')' AS name | (SUM | MAX | MIN) '(' e ')' AS name
  pub data SummariesSpelling : List Lexeme → Summaries → Type 0 where
    last_count : {n : Text}
        → SummariesSpelling
        (keyword k.Count ∷ (with_parentheses [] ++ (keyword k.As ∷ (lexeme.name n ∷ []))))
        (tree.counted n tree.no_summaries)
    next_count : {n : Text} {ys : List Lexeme} {items : Summaries} → SummariesSpelling ys items
        → SummariesSpelling
        (keyword k.Count
        ∷ (with_parentheses []
        ++ (keyword k.As ∷ (lexeme.name n ∷ (sign signs.Comma ∷ ys)))))
        (tree.counted n items)
    last_sum : {op : Aggregate} {n : Text} {xs : List Lexeme} {a : Tree} → Spelling loosest xs a
        → SummariesSpelling
        (keyword (aggregate_word op)
        ∷ (with_parentheses xs
        ++ (keyword k.As ∷ (lexeme.name n ∷ []))))
        (tree.summed op a n tree.no_summaries)
    next_sum : {op : Aggregate} {n : Text} {xs ys : List Lexeme} {a : Tree} {items : Summaries}
        → Spelling loosest xs a → SummariesSpelling ys items
        → SummariesSpelling
        (keyword (aggregate_word op)
        ∷ (with_parentheses xs
        ++ (keyword k.As
        ∷ (lexeme.name n ∷ (sign signs.Comma ∷ ys)))))
        (tree.summed op a n items)

-- the height that no tree of a statement goes beyond
abbrev pub height_limit : ℕ
height_limit = 400

-- an expression of this level that is not too high
pub record IsExpression (level : Level) (xs : List Lexeme) (t : Tree) : Type 0 where
  pub spelled : Spelling level xs t
  pub low : height t ≤ height_limit
