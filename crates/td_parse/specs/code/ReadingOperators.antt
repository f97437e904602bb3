-- What the next lexemes begin: an operator, a comparison, a call and so on. Three lexemes decide at
-- most.
use Rattle.std.specs.Prelude.{Bool, true, false, List, [], ◌∷◌, Option, Some, None, if◌then◌else◌}
use denote.Enum.Bare.{sameb}
use Rattle.td_tree.specs.contracts.operator.Level as level_type
use Rattle.td_tree.specs.declared.keyword.Keyword.{Keyword}
use Rattle.td_tree.specs.declared.keyword.Keyword.TheVariants as k
use Rattle.td_tree.specs.declared.operator.Comparison.{Comparison}
use Rattle.td_tree.specs.declared.operator.Comparison.TheVariants as comparisons
use Rattle.td_tree.specs.declared.operator.Level.{Level}
use Rattle.td_tree.specs.declared.operator.Level.TheVariants as levels
use Rattle.td_tree.specs.declared.operator.Operator.TheVariants as operators
use Rattle.td_tree.specs.declared.operator.Prefix.{Prefix}
use Rattle.td_tree.specs.declared.operator.Prefix.TheVariants as prefixes
use Rattle.td_tree.specs.declared.token.Sign.{Sign}
use Rattle.td_tree.specs.declared.token.Sign.TheVariants as signs
use Rattle.td_tree.specs.model.Grammar.{level_of, operator_words}
use Rattle.td_tree.specs.model.Lexemes.{Lexeme, keyword, sign}
use Rattle.td_tree.specs.model.Lexemes as lexeme
use Rattle.td_parse.specs.code.ReadingSteps.{◌>>=◌, either, ReadOf, same_lexeme, expect}
use Rattle.td_tree.specs.model.Trees as tree
use Rattle.td_tree.specs.model.Trees.{Text, Tree}
use Rattle.td_parse.specs.declared.operators.Link.{Link}
use Rattle.td_parse.specs.declared.operators.Link.TheVariants as links

-- what a word or a sign stands for, and the lexemes after it
abbrev pub with_rest : {A : Type 0} → List Lexeme → Option A → ReadOf A
with_rest ts None = None
with_rest ts (Some a) = Some (a, ts)

-- ---- between operands

-- the level at which it stands
abbrev pub link_level : Link → Level
link_level links.Where = levels.Restriction
link_level (links.Operator op) = level_of op

-- the words or signs by which WHERE or an operator is written
abbrev pub link_words : Link → List Lexeme
link_words links.Where = keyword k.Where ∷ []
link_words (links.Operator op) = operator_words op

-- the tree of two operands with what stands between them
abbrev pub linked_tree : Tree → Link → Tree → Tree
linked_tree left links.Where right = tree.restriction left right
linked_tree left (links.Operator op) right = tree.binary left op right

-- WHERE or the operator that is written by this one word
abbrev pub link_of_word : Keyword → Option Link
link_of_word k.Where = Some links.Where
link_of_word k.Or = Some (links.Operator operators.Or)
link_of_word k.And = Some (links.Operator operators.And)
link_of_word k.Union = Some (links.Operator operators.Union)
link_of_word k.Intersect = Some (links.Operator operators.Intersect)
link_of_word k.Minus = Some (links.Operator operators.Minus)
link_of_word k.Join = Some (links.Operator operators.Join)
link_of_word k.Times = Some (links.Operator operators.Times)
link_of_word k.Compose = Some (links.Operator operators.Compose)
link_of_word k.Matching = Some (links.Operator operators.Matching)
link_of_word k.DUnion = Some (links.Operator operators.DisjointUnion)
link_of_word k.IMinus = Some (links.Operator operators.IncludedMinus)
link_of_word _ = None

-- the operator that is written by this one sign
abbrev pub link_of_sign : Sign → Option Link
link_of_sign signs.Plus = Some (links.Operator operators.Add)
link_of_sign signs.Minus = Some (links.Operator operators.Subtract)
link_of_sign signs.Concatenate = Some (links.Operator operators.Concatenate)
link_of_sign signs.Times = Some (links.Operator operators.Multiply)
link_of_sign signs.Divide = Some (links.Operator operators.Divide)
link_of_sign _ = None

-- NOT begins NOT MATCHING alone
abbrev pub link_after_word : Keyword → List Lexeme → ReadOf Link
link_after_word k.Not ts =
    expect (keyword k.Matching) ts >>= λ after. Some (links.Operator operators.NotMatching, after)
link_after_word w ts = with_rest ts (link_of_word w)

-- what stands at the front and groups to the left
abbrev pub any_link : List Lexeme → ReadOf Link
any_link (keyword w ∷ ts) = link_after_word w ts
any_link (sign s ∷ ts) = with_rest ts (link_of_sign s)
any_link _ = None

-- whether two levels are one
abbrev pub same_level : Level → Level → Bool
same_level = sameb level_type.the_type

-- WHERE or an operator at the front, where it stands at this level
unfoldable pub link_at : Level → List Lexeme → ReadOf Link
link_at level ts = any_link ts >>= λ p. if same_level (link_level p.0) level then Some p else None

-- the comparison that is a word
abbrev pub comparison_of_word : Keyword → Option Comparison
comparison_of_word k.In = Some comparisons.In
comparison_of_word _ = None

-- a comparison that is a sign
abbrev pub comparison_of_sign : Sign → Option Comparison
comparison_of_sign signs.Equal = Some comparisons.Equal
comparison_of_sign signs.NotEqual = Some comparisons.NotEqual
comparison_of_sign signs.Less = Some comparisons.Less
comparison_of_sign signs.LessOrEqual = Some comparisons.LessOrEqual
comparison_of_sign signs.Greater = Some comparisons.Greater
comparison_of_sign signs.GreaterOrEqual = Some comparisons.GreaterOrEqual
comparison_of_sign _ = None

-- the comparison at the front
unfoldable pub comparison_at : List Lexeme → ReadOf Comparison
comparison_at (keyword w ∷ ts) = with_rest ts (comparison_of_word w)
comparison_at (sign s ∷ ts) = with_rest ts (comparison_of_sign s)
comparison_at _ = None

-- ---- before an operand

-- a number is next
abbrev pub begins_with_number : List Lexeme → Bool
begins_with_number (lexeme.number n ∷ ts) = true
begins_with_number _ = false

-- '-' before a number belongs to the number
abbrev pub prefix_after_sign : Sign → List Lexeme → ReadOf Prefix
prefix_after_sign signs.Minus ts =
    if begins_with_number ts then None else Some (prefixes.Negate, ts)
prefix_after_sign _ ts = None

-- TCLOSE, or TUPLE and then FROM
abbrev pub prefix_after_word : Keyword → List Lexeme → ReadOf Prefix
prefix_after_word k.Tclose ts = Some (prefixes.TransitiveClosure, ts)
prefix_after_word k.Tuple ts =
    expect (keyword k.From) ts >>= λ after. Some (prefixes.TupleFrom, after)
prefix_after_word _ ts = None

-- '-', TCLOSE or TUPLE FROM at the front
unfoldable pub prefix_at : List Lexeme → ReadOf Prefix
prefix_at (keyword w ∷ ts) = prefix_after_word w ts
prefix_at (sign s ∷ ts) = prefix_after_sign s ts
prefix_at _ = None

-- name FROM at the front
unfoldable pub extraction_at : List Lexeme → ReadOf Text
extraction_at (lexeme.name n ∷ ts) = expect (keyword k.From) ts >>= λ after. Some (n, after)
extraction_at _ = None

-- ---- behind an operand

-- what an operator behind its operand begins with
abbrev pub begins_postfix : Lexeme → Bool
begins_postfix (sign signs.OpenBrace) = true
begins_postfix (keyword k.Rename) = true
begins_postfix (keyword k.Group) = true
begins_postfix (keyword k.Ungroup) = true
begins_postfix (keyword k.Wrap) = true
begins_postfix (keyword k.Unwrap) = true
begins_postfix _ = false

-- an operator behind its operand is next
unfoldable pub postfix_at : List Lexeme → Bool
postfix_at [] = false
postfix_at (x ∷ ts) = begins_postfix x

-- ---- after a first word

-- a name and then such a lexeme
abbrev pub name_and : (Lexeme → Bool) → List Lexeme → Bool
name_and what (lexeme.name n ∷ (x ∷ ts)) = what x
name_and what _ = false

-- ':='
abbrev pub is_assign : Lexeme → Bool
is_assign = same_lexeme (sign signs.Assign)

-- after a name: the parenthesis of a call, not that of UPDATE's settings
unfoldable pub call_at : List Lexeme → Option (List Lexeme)
call_at ts =
    expect (sign signs.OpenParenthesis) ts
    >>= λ after. if name_and is_assign after then None else Some after

-- what a type begins with
abbrev pub begins_type : Lexeme → Bool
begins_type (lexeme.name n) = true
begins_type (keyword k.Integer) = true
begins_type (keyword k.Char) = true
begins_type (keyword k.Boolean) = true
begins_type (keyword k.Relation) = true
begins_type (keyword k.Tuple) = true
begins_type _ = false

-- after RELATION: a heading, not the elements
unfoldable pub heading_at : List Lexeme → Bool
heading_at ts =
    either false
    (λ after. either (name_and begins_type after) (λ last. true)
    (expect (sign signs.CloseBrace) after))
    (expect (sign signs.OpenBrace) ts)
