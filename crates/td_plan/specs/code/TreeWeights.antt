-- How many nodes expressions have.
use Rattle.std.specs.Prelude.{◌+◌, ℕ, suc}
use Rattle.td_plan.specs.code.PlannedParts.{item_tree}
use Rattle.td_tree.specs.declared.expression.Expr.{Expr}
use Rattle.td_tree.specs.declared.expression.Summary.{Summary}
use Rattle.td_tree.specs.code.TreeViews.{tree_view}
use Rattle.td_tree.specs.model.Trees as trees

abbrev mutual
  pub weight : trees.Tree → ℕ
  weight (trees.literal value) = 1
  weight (trees.name text) = 1
  weight (trees.parentheses inner) = suc (weight inner)
  weight (trees.prefix op operand) = suc (weight operand)
  weight (trees.extract attribute operand) = suc (weight operand)
  weight (trees.restriction operand condition) = suc (weight operand + weight condition)
  weight (trees.binary left op right) = suc (weight left + weight right)
  weight (trees.compare left op right) = suc (weight left + weight right)
  weight (trees.postfix operand op) = suc (weight operand)
  weight (trees.select ty arguments) = suc (weights arguments)
  weight (trees.component rest operand) = suc (weight operand)
  weight (trees.measure op operand) = suc (weight operand)
  weight (trees.aggregate op operand value) = suc (weight operand + weight value)
  weight (trees.relation elements) = suc (weights elements)
  weight (trees.headed_relation heading elements) = suc (weights elements)
  weight (trees.tuple parts) = suc (named_weight parts)
  weight (trees.extend operand parts) = suc (weight operand + named_weight parts)
  weight (trees.extend_setting operand settings) = suc (weight operand + named_weight settings)
  weight (trees.summarize_per operand per summaries) = suc (weight operand + weight per + summaries_weight summaries)
  weight (trees.summarize_by operand by summaries) = suc (weight operand + summaries_weight summaries)
  weight (trees.choice condition consequent alternative) = suc (weight condition + weight consequent + weight alternative)
  weight (trees.binding items result) = suc (named_weight items + weight result)

  pub weights : trees.Trees → ℕ
  weights trees.none = 0
  weights (trees.more first rest) = weight first + weights rest

  pub named_weight : trees.NamedTrees → ℕ
  named_weight trees.none_named = 0
  named_weight (trees.more_named name value rest) = weight value + named_weight rest

  pub summaries_weight : trees.Summaries → ℕ
  summaries_weight trees.no_summaries = 0
  summaries_weight (trees.counted name rest) = suc (summaries_weight rest)
  summaries_weight (trees.summed op value name rest) = weight value + summaries_weight rest

abbrev pub expr_weight : Expr → ℕ
expr_weight expr = weight (tree_view expr)

abbrev pub item_weight : Summary → ℕ
item_weight item = weight (item_tree item)
