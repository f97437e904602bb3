-- Reading an operand and then all that stands between it and others in one walk, with one look at
-- the next lexeme for each operator. It reads what the levels of `Reading` read one after another.
use Rattle.std.specs.Prelude.{ℕ, zero, suc, Bool, List, ◌∷◌, Option, Some, None, option_map, nat_le, ◌&&◌, if◌then◌else◌}
use Rattle.td_tree.specs.declared.keyword.Keyword.{Keyword}
use Rattle.td_tree.specs.declared.keyword.Keyword.TheVariants as k
use Rattle.td_tree.specs.declared.operator.Level.{Level}
use Rattle.td_tree.specs.declared.operator.Level.TheVariants as levels
use Rattle.td_tree.specs.declared.operator.Operator.TheVariants as operators
use Rattle.td_tree.specs.declared.operator.Prefix.TheVariants as prefixes
use Rattle.td_tree.specs.declared.token.Sign.{Sign}
use Rattle.td_tree.specs.declared.token.Sign.TheVariants as signs
use Rattle.td_tree.specs.model.Grammar.{tighter}
use Rattle.td_tree.specs.model.Lexemes.{Lexeme, keyword, sign}
use Rattle.td_tree.specs.model.Trees as tree
use Rattle.td_tree.specs.model.Trees.{Tree}
use Rattle.td_parse.specs.declared.operators.Infix.{Infix}
use Rattle.td_parse.specs.declared.operators.Infix.TheVariants as infixes
use Rattle.td_parse.specs.declared.operators.Link.TheVariants as links
use Rattle.td_parse.specs.code.Reading.{Read, fits, named_from, part, postfixes, prefix_expression, unary_expression}
use Rattle.td_parse.specs.code.ReadingOperators.{comparison_of_sign, comparison_of_word, link_level, link_of_sign, link_of_word, linked_tree, with_rest}
use Rattle.td_parse.specs.code.ReadingSteps.{◌>>=◌, either, ReadOf, expect, listed_to}

-- how tightly a level binds: more than each looser one
abbrev pub tightness : Level → ℕ
tightness levels.Binding = 0
tightness levels.Restriction = 1
tightness levels.Disjunction = 2
tightness levels.Conjunction = 3
tightness levels.Negation = 4
tightness levels.Comparison = 5
tightness levels.Relational = 6
tightness levels.Additive = 7
tightness levels.Multiplicative = 8
tightness levels.Prefixed = 9
tightness levels.Postfixed = 10
tightness levels.Primary = 11

-- ---- between operands: an operator or a comparison

-- the level at which it stands
abbrev pub infix_level : Infix → Level
infix_level (infixes.Link link) = link_level link
infix_level (infixes.Comparison op) = levels.Comparison

-- the tightest level of what may follow its right operand: comparisons do not chain
abbrev pub tightest_after : Infix → Level
tightest_after (infixes.Link link) = link_level link
tightest_after (infixes.Comparison op) = levels.Negation

-- the tree of two operands with what stands between them
abbrev pub infix_tree : Tree → Infix → Tree → Tree
infix_tree left (infixes.Link link) right = linked_tree left link right
infix_tree left (infixes.Comparison op) right = tree.compare left op right

-- the operator or comparison that is this word
abbrev pub infix_of_word : Keyword → Option Infix
infix_of_word w =
    either (option_map infixes.Comparison (comparison_of_word w))
    (λ link. Some (infixes.Link link)) (link_of_word w)

-- the operator or comparison that is this sign
abbrev pub infix_of_sign : Sign → Option Infix
infix_of_sign s =
    either (option_map infixes.Comparison (comparison_of_sign s))
    (λ link. Some (infixes.Link link)) (link_of_sign s)

-- what begins with this word: NOT begins NOT MATCHING alone
abbrev pub infix_after_word : Keyword → List Lexeme → ReadOf Infix
infix_after_word k.Not ts =
    expect (keyword k.Matching) ts
    >>= λ after. Some (infixes.Link (links.Operator operators.NotMatching), after)
infix_after_word w ts = with_rest ts (infix_of_word w)

-- the operator or comparison at the front
unfoldable pub any_infix : List Lexeme → ReadOf Infix
any_infix (keyword w ∷ ts) = infix_after_word w ts
any_infix (sign s ∷ ts) = with_rest ts (infix_of_sign s)
any_infix _ = None

-- whether a number is at least the first and at most the second
abbrev pub is_between : ℕ → ℕ → ℕ → Bool
is_between least most n = nat_le least n && nat_le n most

-- the operator or comparison at the front, where it binds at least and at most so tightly
unfoldable pub infix_at : ℕ → ℕ → List Lexeme → ReadOf Infix
infix_at least most ts =
    any_infix ts >>= λ p.
    if is_between least most (tightness (infix_level p.0)) then Some p else None

-- NOT at the front, where a negation may stand at this level
unfoldable pub not_at : Level → List Lexeme → Option (List Lexeme)
not_at level ts =
    if nat_le (tightness level) (tightness levels.Negation)
    then expect (keyword k.Not) ts else None

-- ---- the walk

module _ (inner : Level → List Lexeme → Read) (depth : ℕ) where
  -- goes on behind a tree with what binds at least and at most so tightly, at most so many times:
  -- behind an operand only what binds as loosely or looser can follow
  unfoldable pub walk : ℕ → ℕ → ℕ → Tree → List Lexeme → Read
  walk least zero most left ts = None
  walk least (suc n) most left ts =
      either (Some (left, ts))
      (λ p. inner (tighter (infix_level p.0)) p.1 >>= λ x.
      if fits inner depth (infix_tree left p.0 x.0)
      then walk least n (tightness (tightest_after p.0)) (infix_tree left p.0 x.0) x.1 else None)
      (infix_at least most ts)

  -- from what is read first down to this level, where the other is the tightest that may follow
  abbrev pub walk_from : Level → Level → Read → Read
  walk_from level tightest first =
      first >>= λ x. walk (tightness level) (suc depth) (tightness tightest) x.0 x.1

  -- after TUPLE and '{': the tuple
  unfoldable pub tuple_parts : List Lexeme → Read
  tuple_parts ts =
      listed_to (sign signs.CloseBrace) (part inner depth) ts
      >>= λ x. Some (tree.tuple (named_from x.0), x.1)

  -- after TUPLE and '{': the tuple with the operators behind it
  unfoldable pub tuple_operand : List Lexeme → Read
  tuple_operand ts = tuple_parts ts >>= λ x. postfixes inner depth (suc depth) x.0 x.1

  -- an expression with operators between operands: its first operand, and then the walk
  unfoldable pub infix_expression : Level → List Lexeme → Read
  infix_expression level ts =
      either (walk_from level levels.Multiplicative (unary_expression inner depth ts))
      (λ after. walk_from level levels.Negation
      (prefix_expression inner depth levels.Negation prefixes.Not after))
      (not_at level ts)
